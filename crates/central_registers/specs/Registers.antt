-- The 24 registers as one list: A0 to A7, B0 to B7, X0 to X7.
use Rattle.std.specs.Prelude.{cond, List, ℕ, ◌+◌, eqb, get_or, set}

abbrev pub a_of : List ℕ → ℕ → ℕ
a_of r i = get_or r i 0

abbrev pub b_of : List ℕ → ℕ → ℕ
b_of r i = get_or r (8 + i) 0

abbrev pub x_of : List ℕ → ℕ → ℕ
x_of r i = get_or r (16 + i) 0

abbrev pub set_a : List ℕ → ℕ → ℕ → List ℕ
set_a r i v = set r i v

-- "B0 is zero and a store to it is dropped."
unfoldable pub set_b : List ℕ → ℕ → ℕ → List ℕ
set_b r i v = cond (eqb i 0) r (set r (8 + i) v)

abbrev pub set_x : List ℕ → ℕ → ℕ → List ℕ
set_x r i v = set r (16 + i) v
