-- Decoding.
use Rattle.std.specs.Prelude.{cond, ℕ, ltb}
use Rattle.central_decode.specs.Parcels.{parcel, digit, code, jk, constant_k}
use Rattle.central_decode.specs.declared.instruction.Instruction.{Instruction}

-- K of an instruction that begins at this place; at the last place, 3, there is none
unfoldable pub constant_at : ℕ → ℕ → ℕ
constant_at w place = cond (ltb place 3) (constant_k w place) 0

-- "15 bits f m i j k, or 30 bits f m i j K", from the parcel at this place on
unfoldable pub decoded : ℕ → ℕ → Instruction
decoded w place =
    record {
      code = code (parcel w place);
      i = digit (parcel w place) 2;
      j = digit (parcel w place) 3;
      k = digit (parcel w place) 4;
      jk = jk (parcel w place);
      constant = constant_at w place;
    }
