-- One's-complement arithmetic of n bits, by document 01, "Arithmetic".
use Rattle.std.specs.Prelude.{ℕ, ◌+◌, ◌-◌, ◌^◌, cond, ltb}
use Rattle.word_arithmetic.specs.Bits.{negative}

-- the complement: each of the n bits changed
abbrev pub complement : ℕ → ℕ → ℕ
complement n a = 2 ^ n - 1 - a

-- the magnitude: the value, or its complement where the sign is set. Of Bj in 22 and 23, "complemented where Bj is negative"; of the word
-- in 26, "a negative word is complemented whole"
unfoldable pub magnitude : ℕ → ℕ → ℕ
magnitude n a = cond (negative n a) (complement n a) a

-- "the minuend less the complement of the addend, plus 2^n - 1 where that is negative"
unfoldable pub sum : ℕ → ℕ → ℕ → ℕ
sum n minuend addend =
    cond (ltb minuend (complement n addend)) (minuend + (2 ^ n - 1) - complement n addend)
    (minuend - complement n addend)

-- "The difference a - b is the sum of a and the complement of b."
abbrev pub difference : ℕ → ℕ → ℕ → ℕ
difference n a b = sum n a (complement n b)

-- a value of n bits as one of m bits, with the sign extended: ones from bit n up where the sign is set, else zeros
unfoldable pub sign_extend : ℕ → ℕ → ℕ → ℕ
sign_extend n m a = cond (negative n a) (a + (2 ^ m - 2 ^ n)) a
