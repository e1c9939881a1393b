-- The widths that the functions ask for and give. That a register which is set keeps them is proved in `Laws.Widths`, that effects and turns
-- do in `central_apply` and `central_turn`.
use Rattle.std.specs.Prelude.{List, ◌≡◌, ℕ, ◌^◌, ◌<◌, get_or, length}

-- the 24 registers: "A and B registers ... have 18 bits, X registers 60. B0 is zero"
pub record Wide (r : List ℕ) : Type 0 where
  pub count : length r ≡ 24
  pub short : (i : ℕ) → i < 16 → get_or r i 0 < 2 ^ 18
  pub long : (i : ℕ) → get_or r i 0 < 2 ^ 60
  pub b0 : get_or r 8 0 ≡ 0

-- v is w, a value of 18 bits; of 60 bits
pub record Short (v w : ℕ) : Type 0 where
  pub is : v ≡ w
  pub small : v < 2 ^ 18

pub record Long (v w : ℕ) : Type 0 where
  pub is : v ≡ w
  pub small : v < 2 ^ 60
