-- A choice by a test, and two numbers in either order.
use Rattle.std.specs.Prelude.{Bool, true, false, cond, ◌⊎◌, ◌≡◌, refl, ℕ, ◌≤◌, ◌<◌, leb}
use Rattle.std.proofs.Common.{inl, inr, leb-true, leb-false}

-- what holds of each choice under its test holds of the choice
pub of-cond : {A : Type 0} (P : A → Type 0) (t : Bool) {x y : A} → (t ≡ true → P x) → (t ≡ false → P y) → P (cond t x y)
of-cond P true f g = f refl
of-cond P false f g = g refl

pub le-or-lt : (a b : ℕ) → (a ≤ b) ⊎ (b < a)
le-or-lt a b = split (leb a b) refl
  where
    split : (t : Bool) → leb a b ≡ t → (a ≤ b) ⊎ (b < a)
    split true e = inl (leb-true a b e)
    split false e = inr (leb-false a b e)
