-- What the field test lets through.
use Rattle.std.specs.Prelude.{Bool, true, false, cond, ◌≡◌, refl, ℕ, ◌+◌, ◌<◌, ltb, Some, None}
use Rattle.std.proofs.Common.{arith, ltb-true}
use Rattle.base_logic.specs.Laws.Choice.{of-cond}
use Rattle.central_field.specs.Address.{place_of, relative, Within}
use Rattle.central_field.specs.declared.address.Bounds.{Bounds}
use Rattle.central_field.specs.declared.address.Relative.{Relative}
use Rattle.central_field.specs.declared.address.Absolute.{Absolute}

-- it is in the field
pub place-within : (b : Bounds) (a : Relative) → Within b (place_of b a)
unfolding place_of
place-within b a =
    of-cond (Within b) (ltb a.0 b.fl) (λ e. let h = ltb-true a.0 b.fl e in (omega arith, omega arith)) (λ e. tt)

by-test : (n : ℕ) (b : Bounds) (a : Absolute) (t : Bool) → ltb n b.fl ≡ t → cond t (Some (record { 0 = b.ra + n })) None ≡ Some a → n < b.fl
by-test n b a true t e = ltb-true n b.fl t
by-test n b a false t e = let z : ◌≡◌ {A = ℕ} 0 1 = cc in absurd (omega arith)

-- what the field test lets through is below FL
pub inside-below : (b : Bounds) (n : ℕ) (a : Absolute) → place_of b (relative n) ≡ Some a → n < b.fl
unfolding place_of
inside-below b n a e = by-test n b a (ltb n b.fl) refl e
