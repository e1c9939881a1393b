-- A verdict by its cases and by its tests, and the order of refusals.
use Rattle.std.specs.Prelude.{Bool, true, false, cond, ◌≡◌, refl, ℕ, Ok, Err}
use Rattle.std.proofs.Common.{arith}
use Rattle.base_outcome.specs.declared.refusal.Refusal.{Refusal}
use Rattle.base_outcome.specs.Verdict.{Verdict}
use Rattle.base_outcome.specs.Order.{or_else}

-- what holds of an accepted call and of each refusal holds of every verdict
pub either : (P : Verdict → Type 0) (v : Verdict) → (v ≡ Ok tt → P (Ok tt)) → ((r : Refusal) → P (Err r)) → P v
either P (Ok _) done refused = done refl
either P (Err r) done refused = refused r

-- what is accepted first and later is accepted
pub both-accept : (v w : Verdict) → or_else v w ≡ Ok tt → (v ≡ Ok tt) × (w ≡ Ok tt)
both-accept (Ok _) w e = (refl, e)
both-accept (Err r) w e = let z : ◌≡◌ {A = ℕ} 0 1 = cc in absurd (omega arith)

-- refusals in order, two by two
pub or-else-assoc : (u v w : Verdict) → or_else (or_else u v) w ≡ or_else u (or_else v w)
or-else-assoc (Ok _) v w = refl
or-else-assoc (Err r) v w = refl

-- accepted where a test passes
pub by-test : (t : Bool) (v : Verdict) (r : Refusal) → cond t v (Err r) ≡ Ok tt → (t ≡ true) × (v ≡ Ok tt)
by-test true v r e = (refl, e)
by-test false v r e = let z : ◌≡◌ {A = ℕ} 0 1 = cc in absurd (omega arith)

-- accepted where a fault is not found
pub by-fault : (t : Bool) (r : Refusal) (v : Verdict) → cond t (Err r) v ≡ Ok tt → (t ≡ false) × (v ≡ Ok tt)
by-fault true r v e = let z : ◌≡◌ {A = ℕ} 0 1 = cc in absurd (omega arith)
by-fault false r v e = (refl, e)
