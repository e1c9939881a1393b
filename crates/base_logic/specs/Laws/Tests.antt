-- Tests as boolean values.
use Rattle.std.specs.Prelude.{Bool, true, false, ◌&&◌, ◌||◌, not, ◌⊎◌, ◌≡◌, refl}
use Rattle.std.proofs.Common.{inl, inr, sym, ◌∙◌}
use Rattle.std.proofs.lemmas.Bool.{not-true, not-false}

-- both halves of a test that holds
pub both : (a b : Bool) → (a && b) ≡ true → (a ≡ true) × (b ≡ true)
both true b e = (refl, e)
both false true e = (e, refl)
both false false e = (e, e)

-- one of two tests, where one of them holds
pub one_of : (a b : Bool) → (a || b) ≡ true → (a ≡ true) ⊎ (b ≡ true)
one_of true b e = inl refl
one_of false b e = inr e

-- the value of a test, by the branch that its negation took
pub holds : {a b : Bool} → a ≡ b → not a ≡ false → b ≡ true
holds {a} e h = sym e ∙ not-false a h

pub fails : {a b : Bool} → a ≡ b → not a ≡ true → b ≡ false
fails {a} e h = sym e ∙ not-true a h
