-- What each entry of a list has.
use Rattle.std.specs.Prelude.{List, [], ◌∷◌, ℕ, zero, suc, get_or}

-- each entry of a list has P
abbrev pub Each : {A : Type 0} → (A → Type 0) → List A → Type 0
Each P [] = Unit
Each P (x ∷ xs) = P x × Each P xs

-- what each entry has, and the default, has the entry at any place
pub of-get_d : {A : Type 0} (P : A → Type 0) (xs : List A) (i : ℕ) (d : A) → Each P xs → P d → P (get_or xs i d)
of-get_d P [] i d h z = z
of-get_d P (x ∷ xs) zero d h z = h.0
of-get_d P (x ∷ xs) (suc i) d h z = of-get_d P xs i d h.1 z
