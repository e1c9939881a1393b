-- The parts of a decoded instruction have their widths.
use Rattle.std.specs.Prelude.{ℕ, ◌^◌, ◌<◌, ltb}
use Rattle.std.proofs.Common.{lit<}
use Rattle.word_arithmetic.specs.Laws.Bits.{bits-lt}
use Rattle.base_logic.specs.Laws.Choice.{of-cond}
use Rattle.central_decode.specs.Parcels.{parcel}
use Rattle.central_decode.specs.Instruction.{constant_at, decoded}
use Rattle.central_decode.specs.Widths.{Fit}

constant-lt : (w place : ℕ) → constant_at w place < 2 ^ 18
unfolding constant_at
constant-lt w place = of-cond (λ (k : ℕ). k < 2 ^ 18) (ltb place 3) (λ e. bits-lt w _ 18) (λ e. lit< tt)

pub decoded-fits : (w place : ℕ) → Fit (decoded w place)
unfolding decoded
decoded-fits w place =
    record {
      code = bits-lt (parcel w place) 9 6;
      i = bits-lt (parcel w place) 6 3;
      j = bits-lt (parcel w place) 3 3;
      k = bits-lt (parcel w place) 0 3;
      jk = bits-lt (parcel w place) 0 6;
      constant = constant-lt w place;
    }
