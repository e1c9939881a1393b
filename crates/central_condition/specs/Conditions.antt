-- The conditions of the branches 03 to 07.
use Rattle.std.specs.Prelude.{ℕ, ◌-◌, ◌^◌, Bool, true, false, not, ◌||◌, cond, List, [], ◌∷◌, eqb, ltb, get_or}
use Rattle.word_arithmetic.specs.Bits.{negative}
use Rattle.floating_word.specs.Special.{is_infinite, is_indefinite}

-- either zero
abbrev pub is_zero : ℕ → Bool
is_zero x = eqb x 0 || eqb x (2 ^ 60 - 1)

-- 03, i = 0 to 7: "Xj zero (either zero), not zero, plus, minus, in range, out of range (top 12 bits 3777 or 4000), definite,
-- indefinite (1777 or 6000)"
abbrev pub word_conditions : ℕ → List Bool
word_conditions x =
    is_zero x
    ∷ not (is_zero x)
    ∷ not (negative 60 x)
    ∷ negative 60 x
    ∷ not (is_infinite x)
    ∷ is_infinite x
    ∷ not (is_indefinite x)
    ∷ is_indefinite x
    ∷ []

unfoldable pub word_condition : ℕ → ℕ → Bool
word_condition i x = get_or (word_conditions x) i false

-- "for 06, 07 a set sign is less than a clear one, equal signs go by pattern"
unfoldable pub is_less : ℕ → ℕ → Bool
is_less a b = cond (negative 18 a) (cond (negative 18 b) (ltb a b) true) (cond (negative 18 b) false (ltb a b))

-- 04 equal, 05 not equal, 06 not less, 07 less; "04, 05 as bit patterns"
abbrev pub comparisons : ℕ → ℕ → List Bool
comparisons bi bj = eqb bi bj ∷ not (eqb bi bj) ∷ not (is_less bi bj) ∷ is_less bi bj ∷ []

-- code 0m, m = 4 to 7
unfoldable pub comparison : ℕ → ℕ → ℕ → Bool
comparison m bi bj = get_or (comparisons bi bj) (m - 4) false
