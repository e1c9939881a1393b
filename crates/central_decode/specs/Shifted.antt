-- A word shifted left until its next instruction stands at the top of 64 bits.
use Rattle.std.specs.Prelude.{ℕ, ◌+◌, ◌*◌, ◌/◌, ◌%◌, ◌^◌}
use Rattle.word_arithmetic.specs.Bits.{bits}
use Rattle.central_decode.specs.declared.instruction.Instruction.{Instruction}

-- the word w with the parcel at this place at the top
unfoldable pub shifted_to : ℕ → ℕ → ℕ
shifted_to w place = w * 2 ^ (4 + 15 * place) % 2 ^ 64

-- the instruction at the top of v
unfoldable pub decoded_top : ℕ → Instruction
decoded_top v =
    record { code = v / 2 ^ 58; i = bits v 55 3; j = bits v 52 3; k = bits v 49 3; jk = bits v 49 6; constant = bits v 34 18 }
