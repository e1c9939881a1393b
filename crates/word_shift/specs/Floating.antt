-- Unpack (26) and pack (27): the sign is bit 59, the stored exponent bits 58 to 48, the coefficient bits 47 to 0.
use Rattle.std.specs.Prelude.{ℕ, ◌+◌, ◌-◌, ◌*◌, ◌/◌, ◌^◌, cond, ltb}
use Rattle.word_arithmetic.specs.Bits.{low, negative}
use Rattle.word_arithmetic.specs.Sums.{complement, magnitude}
use Rattle.word_shift.specs.declared.floating.Unpacked.{Unpacked}

-- 26 "sends the signed coefficient to Xi"; "a negative word is complemented whole"
unfoldable pub coefficient_of : ℕ → ℕ
coefficient_of x = cond (negative 60 x) (complement 60 (low 48 (magnitude 60 x))) (low 48 (magnitude 60 x))

-- "exponent e is stored as 2000 + e, or 1777 + e below zero", and is sent to Bj in 18 bits. "Stored 1777 unpacks to 777777"
unfoldable pub exponent_from : ℕ → ℕ
exponent_from stored = cond (ltb stored 0o2000) (complement 18 (0o1777 - stored)) (stored - 0o2000)

unfoldable pub exponent_of : ℕ → ℕ
exponent_of x = exponent_from (magnitude 60 x / 2 ^ 48)

-- "26 sends the signed coefficient to Xi, e to Bj"
unfoldable pub unpacked_from : ℕ → Unpacked
unpacked_from x = record { coefficient = coefficient_of x; exponent = exponent_of x }

-- what is stored for "an 11-bit one's-complement exponent": "2000 + e, or 1777 + e below zero"; "and Bj = 777777 packs to it", to 1777
unfoldable pub stored_from : ℕ → ℕ
stored_from e = cond (negative 11 e) (0o1777 - complement 11 e) (0o2000 + e)

-- "27 takes sign and bits 47 to 0 of Xk and the low 11 bits of Bj, read as an 11-bit one's-complement exponent; where the sign is set
-- the stored exponent is complemented, and bits 47 to 0 go as they are"
unfoldable pub packed : ℕ → ℕ → ℕ
packed b x =
    cond (negative 60 x) (2 ^ 59 + complement 11 (stored_from (low 11 b)) * 2 ^ 48 + low 48 x)
    (stored_from (low 11 b) * 2 ^ 48 + low 48 x)
