-- A number as octal digits.
use Rattle.std.specs.Prelude.{cond, List, [], ◌∷◌, ℕ, zero, suc, ◌+◌, ◌*◌, ◌/◌, ◌%◌, ◌^◌, eqb}

-- the byte of the digit of v that is worth 8 to the power k
abbrev pub digit_of : ℕ → ℕ → ℕ
digit_of v k = 48 + v / 2 ^ (3 * k) % 8

-- the last n digits of v
unfoldable pub digits : ℕ → ℕ → List ℕ
digits zero v = []
digits (suc n) v = digit_of v n ∷ digits n v

-- how many digits v has without leading zeros, of at most n + 1; zero has one
unfoldable pub width_in : ℕ → ℕ → ℕ
width_in zero v = 1
width_in (suc n) v = cond (eqb (v / 2 ^ (3 * suc n) % 8) 0) (width_in n v) (suc (suc n))

-- v without leading zeros, for v below 2^64, which 22 digits hold
unfoldable pub octal : ℕ → List ℕ
octal v = digits (width_in 21 v) v
