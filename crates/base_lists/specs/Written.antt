-- Numbers written into a list from a place on.
use Rattle.std.specs.Prelude.{◌≡◌, List, ℕ, ◌+◌, length}
use Rattle.std.proofs.lemmas.List.Edits.{sets}

-- these numbers were written into `before` from `at` on: what that leaves
pub record Stores (before : List ℕ) (at : ℕ) (numbers after : List ℕ) : Type 0 where
  pub is : after ≡ sets before at numbers

-- the same, with the place after them, where the next are written
pub record Wrote (before : List ℕ) (at : ℕ) (numbers after : List ℕ) (next : ℕ) : Type 0 where
  pub is : after ≡ sets before at numbers
  pub ends : next ≡ at + length numbers
