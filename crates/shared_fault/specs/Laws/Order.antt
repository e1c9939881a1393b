-- What a refusal says of the tests of a schedule: those of lower numbers passed, and its own did not.
use Rattle.std.specs.Prelude.{Bool, true, false, ◌&&◌, cond, List, [], ◌∷◌, ◌++◌, ◌⊎◌, ◌≡◌, refl, ℕ, ◌≤◌, ◌<◌, ltb, length, Ok, Err}
use Rattle.std.proofs.Common.{inl, inr, ⊎_elim, sym, ◌∙◌, arith, ltb-true, ltb-false}
use Rattle.std.proofs.Math.Path.{ap}
use Rattle.base_logic.specs.Laws.Tests.{both}
use Rattle.base_outcome.specs.Numbers.{refusal_number, verdict_number}
use Rattle.base_outcome.specs.Order.{or_else}
use Rattle.base_outcome.specs.declared.refusal.Refusal.{Refusal}
use Rattle.base_outcome.specs.Verdict.{Verdict}
use Rattle.central_record.specs.Record.{length_fits, words_fit, record_fits, host_verdict}
use Rattle.exchange_jump.specs.Jump.{package_inside, package_clean, field_inside}
use Rattle.shared_schedule.specs.Refusals.{lists_fit, jobs_listed, turns_fit, lists_verdict, every_job, all_apart, owners_verdict, schedule_verdict}
use Rattle.shared_schedule.specs.Schedule.{Schedule}

-- a test, and the refusal of what does not pass it
record Step : Type 0 where
  passed : Bool
  refusal : Refusal

abbrev step : Bool → Refusal → Step
step t r = record { passed = t; refusal = r }

abbrev number : Step → ℕ
number x = refusal_number x.refusal

abbrev in_order : List Step → Verdict
in_order [] = Ok tt
in_order (x ∷ l) = cond x.passed (in_order l) (Err x.refusal)

-- "Lowest number first", each above n
abbrev ascending : ℕ → List Step → Bool
ascending n [] = true
ascending n (x ∷ l) = ltb n (number x) && ascending (number x) l

-- the first number, and those after it
rising : (n : ℕ) (x : Step) (l : List Step) → ascending n (x ∷ l) ≡ true
    → (n < number x) × (ascending (number x) l ≡ true)
rising n x l a =
    let h = both (ltb n (number x)) (ascending (number x) l) a in
    (ltb-true n (number x) h.0, h.1)

-- two lists of tests, one after the other
or-else-cond : (t : Bool) (v w : Verdict) (r : Refusal) → or_else (cond t v (Err r)) w ≡ cond t (or_else v w) (Err r)
or-else-cond true v w r = refl
or-else-cond false v w r = refl

in-order-then : (k l : List Step) → or_else (in_order k) (in_order l) ≡ in_order (k ++ l)
in-order-then [] l = refl
in-order-then (x ∷ k) l = or-else-cond x.passed (in_order k) (in_order l) x.refusal ∙ rw (in-order-then k l)

-- a refusal is one of the tests after the first, or the first test's own
passed-or-not : (x : Step) (l : List Step) (r : Refusal) (t : Bool) → x.passed ≡ t → in_order (x ∷ l) ≡ Err r
    → ((x.passed ≡ true) × (in_order l ≡ Err r)) ⊎ ((x.passed ≡ false) × (number x ≡ refusal_number r))
passed-or-not x l r true p e = inl (p, rw p at e)
passed-or-not x l r false p e = inr (p, ap verdict_number (rw p at e))

-- a refusal has a number above n
above : (n : ℕ) (l : List Step) (r : Refusal) → ascending n l ≡ true → in_order l ≡ Err r → n < refusal_number r
above n [] r a e = let z : ◌≡◌ {A = ℕ} 0 1 = cc in absurd (omega arith)
above n (x ∷ l) r a e =
    let up = rising n x l a in
    ⊎_elim
    (λ h. omega (arith, up.0, above (number x) l r up.1 h.1))
    (λ h. omega (arith, up.0, h.1))
    (passed-or-not x l r x.passed refl e)

-- one of two statements, by a test
abbrev choose : Bool → Type 0 → Type 0 → Type 0
choose true A B = A
choose false A B = B

-- what the refusal with number n says of tests in order
abbrev Told : ℕ → List Step → Type 0
Told n [] = Unit
Told n (x ∷ l) = choose (ltb (number x) n) ((x.passed ≡ true) × Told n l) (x.passed ≡ false)

-- of the first test, by its number
told-first : (x : Step) (l : List Step) (n : ℕ) → (number x < n → (x.passed ≡ true) × Told n l)
    → (n ≤ number x → x.passed ≡ false)
    → (t : Bool) → ltb (number x) n ≡ t → choose t ((x.passed ≡ true) × Told n l) (x.passed ≡ false)
told-first x l n lower own true d = lower (ltb-true _ _ d)
told-first x l n lower own false d = own (ltb-false _ _ d)

-- it is so: the number is one test's alone
told : (n : ℕ) (l : List Step) (r : Refusal) → ascending n l ≡ true → in_order l ≡ Err r → Told (refusal_number r) l
told n [] r a e = tt
told n (x ∷ l) r a e =
    let up = rising n x l a in
    let choice = passed-or-not x l r x.passed refl e in
    told-first x l (refusal_number r)
    (λ g. ⊎_elim (λ h. (h.0, told (number x) l r up.1 h.1)) (λ h. absurd (omega (arith, g, h.1))) choice)
    (λ g. ⊎_elim (λ h. absurd (omega (arith, g, above (number x) l r up.1 h.1))) (λ h. h.0) choice)
    (ltb (number x) (refusal_number r)) refl

-- the tests of a schedule
module _ (s : Schedule) where
  abbrev host_steps : List Step
  host_steps =
      step (length_fits (length s.memory)) Refusal.CentralLength
      ∷ step (words_fit s.memory) Refusal.CentralWord
      ∷ step (record_fits (length s.memory) s.central) Refusal.RecordValue
      ∷ []

  abbrev list_steps : List Step
  list_steps =
      step (lists_fit s.jobs s.stint_jobs s.stint_turns) Refusal.ListLength
      ∷ step (jobs_listed s.jobs s.stint_jobs) Refusal.UnlistedJob
      ∷ step (turns_fit s.stint_turns) Refusal.TooManyTurns
      ∷ []

  abbrev owner_steps : List Step
  owner_steps =
      step (every_job s.jobs (package_inside s.memory)) Refusal.PackagePastEnd
      ∷ step (every_job s.jobs (package_clean s.memory)) Refusal.StrayBits
      ∷ step (every_job s.jobs (field_inside s.memory)) Refusal.FieldPastEnd
      ∷ step (all_apart s.memory s.jobs) Refusal.SharedWord
      ∷ []

  abbrev steps : List Step
  steps = host_steps ++ (list_steps ++ owner_steps)

  schedule-in-order : schedule_verdict s ≡ in_order steps
  unfolding schedule_verdict host_verdict lists_verdict owners_verdict
  schedule-in-order =
      ap (or_else (in_order host_steps)) (in-order-then list_steps owner_steps)
      ∙ in-order-then host_steps (list_steps ++ owner_steps)

  pub schedule-told : (r : Refusal) → schedule_verdict s ≡ Err r → Told (refusal_number r) steps
  schedule-told r e = told 0 steps r refl (sym schedule-in-order ∙ e)
