-- The logical codes, by document 004. `bit_and`, `bit_or` and `bit_xor` are the logic's own; `Laws.Logic` says what each bit of a result is.
use Rattle.std.specs.Prelude.{ℕ, List, [], ◌∷◌, get_or}
use Rattle.std.specs.Int.Bits.{bit_and, bit_or, bit_xor}
use Rattle.word_arithmetic.specs.Sums.{complement}

-- 10 to 17, by document 004: "TRANSMIT Xj to Xi", "LOGICAL PRODUCT of Xj and Xk to Xi", "LOGICAL SUM of Xj and Xk to Xi", "LOGICAL
-- DIFFERENCE of Xj and Xk to Xi", "TRANSMIT Xk COMPLEMENT to Xi", and 11 to 13 again with "Xk COMPLEMENT" in place of Xk
abbrev pub logical_results : ℕ → ℕ → List ℕ
logical_results xj xk =
    xj
    ∷ bit_and xj xk
    ∷ bit_or xj xk
    ∷ bit_xor xj xk
    ∷ complement 60 xk
    ∷ bit_and xj (complement 60 xk)
    ∷ bit_or xj (complement 60 xk)
    ∷ bit_xor xj (complement 60 xk)
    ∷ []

-- code 1m
unfoldable pub logical : ℕ → ℕ → ℕ → ℕ
logical m xj xk = get_or (logical_results xj xk) m 0

-- the peripheral logical product (12, 22), logical difference (11, 23, 33, 43, 53) and selective clear (13) of A and an operand of 18 bits
abbrev pub logical_product : ℕ → ℕ → ℕ
logical_product a b = bit_and a b

abbrev pub logical_difference : ℕ → ℕ → ℕ
logical_difference a b = bit_xor a b

abbrev pub selective_clear : ℕ → ℕ → ℕ
selective_clear a b = bit_and a (complement 18 b)
