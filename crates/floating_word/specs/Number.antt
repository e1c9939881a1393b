-- A finite word as a sign, a size and an exponent, and the word that they make. The sign is bit 59, the stored exponent bits 58 to 48, the
-- coefficient bits 47 to 0; "a negative word is complemented whole".
use Rattle.std.specs.Prelude.{ℕ, ◌+◌, ◌-◌, ◌*◌, ◌/◌, ◌^◌, Bool, cond, ltb}
use Rattle.word_arithmetic.specs.Bits.{low, negative}
use Rattle.word_arithmetic.specs.Sums.{magnitude}
use Rattle.floating_word.specs.Special.{signed, infinity_word}
use Rattle.floating_word.specs.declared.number.Number.{Number}

-- a sign, a size and a biased exponent
abbrev pub number_with : Bool → ℕ → ℕ → Number
number_with minus size biased = record { minus = minus; size = size; biased = biased }

-- the stored exponent
abbrev pub stored_in : ℕ → ℕ
stored_in x = magnitude 60 x / 2 ^ 48

-- "exponent e is stored as 2000 + e, or 1777 + e below zero". An exponent e stands here as e + 1023, biased, so that the least, -1023, is 0.
unfoldable pub biased_from : ℕ → ℕ
biased_from stored = cond (ltb stored 0o2000) (1023 + stored - 0o1777) (1023 + (stored - 0o2000))

unfoldable pub stored_for : ℕ → ℕ
stored_for biased = cond (ltb biased 1023) (0o1777 + biased - 1023) (0o2000 + (biased - 1023))

-- the sign of a finite word, "the coefficient's size", and the exponent
unfoldable pub number_in : ℕ → Number
number_in x = number_with (negative 60 x) (low 48 (magnitude 60 x)) (biased_from (stored_in x))

-- the word of a sign, a size and an exponent that falls by so much. Document 02, (f): "An exponent over 1022 gives infinity with the sign,
-- one under -1023 a word of all zeros."
unfoldable pub word_of : Bool → ℕ → ℕ → ℕ → ℕ
word_of minus biased fall size =
    cond (ltb biased fall) 0
    (cond (ltb (1022 + 1023) (biased - fall)) (infinity_word minus)
    (signed minus (stored_for (biased - fall) * 2 ^ 48 + size)))
