-- Who is named for numbers 6, 7 and 8 is at fault.
use Rattle.std.proofs.Math.Bool.{true, false}
use Rattle.std.proofs.Math.Path.{◌≡◌, refl}
use Rattle.std.specs.Prelude.{ℕ, ◌≤◌, ◌<◌, ltb, leb, eqb, length, get_or, Option, Some, None, Err}
use native.Mathlib.Omega.{arith}
use borrow.Author.Tests.{ltb-true, ltb-false, eqb-true, eqb-false, le-leb, eq-eqb}
use Rattle.base_logic.specs.Laws.Choice.{of-cond}
use Rattle.base_outcome.specs.declared.refusal.Refusal.TheVariants as Refusal
use Rattle.central_record.specs.Record.{below}
use Rattle.single_calls.specs.Turns.{most_turns}
use Rattle.shared_limits.specs.Laws.Limits.{few-jobs-fit}
use Rattle.shared_limits.specs.Limits.{most_jobs, most_stints}
use Rattle.shared_schedule.specs.Refusals.{lists_fit, jobs_listed, turns_fit, schedule_verdict}
use Rattle.shared_schedule.specs.Schedule.{Schedule}
use Rattle.shared_fault.specs.Fault.{length_fault, finding_of}
use Rattle.shared_fault.proofs.Findings.{NamesFirst, names-first}
use Rattle.shared_fault.specs.Laws.Order.{schedule-told}
use Rattle.shared_fault.specs.declared.fault.Fault.{Fault}

-- 6: what is named is so; where nobody is, the lists are of unequal length
abbrev pub WrongLength : Schedule → Option Fault → Type 0
WrongLength s None = length s.stint_jobs ≡ length s.stint_turns → ⊥
WrongLength s (Some Fault.NoJob) = length s.jobs ≡ 0
WrongLength s (Some (Fault.Job i)) = (i ≡ most_jobs) × (most_jobs < length s.jobs)
WrongLength s (Some (Fault.Stint i)) = (i ≡ most_stints) × (most_stints < length s.stint_jobs)
WrongLength s (Some (Fault.PackageField i j)) = ⊥
WrongLength s (Some (Fault.Packages i j)) = ⊥
WrongLength s (Some (Fault.Fields i j)) = ⊥

module _ (s : Schedule) where
  -- lists that are neither too short nor too long, and yet do not fit
  unequal : lists_fit s.jobs s.stint_jobs s.stint_turns ≡ false
      → 1 ≤ length s.jobs → length s.jobs ≤ most_jobs → length s.stint_jobs ≤ most_stints
      → length s.stint_jobs ≡ length s.stint_turns → ⊥
  unfolding lists_fit
  unequal e some few short even =
      let t : true ≡ false =
      rw (few-jobs-fit (length s.jobs) some few, le-leb (length s.stint_jobs) most_stints short, eq-eqb _ (length s.stint_turns) even) at e in
      let z : ◌≡◌ {A = ℕ} 0 1 = cc in omega arith

  wrong-length : lists_fit s.jobs s.stint_jobs s.stint_turns ≡ false
      → WrongLength s (length_fault (length s.jobs) (length s.stint_jobs))
  unfolding length_fault
  wrong-length e =
      of-cond (WrongLength s) (eqb (length s.jobs) 0) (eqb-true (length s.jobs) 0)
      (λ some. of-cond (WrongLength s) (ltb most_jobs (length s.jobs)) (λ h. (refl, ltb-true most_jobs (length s.jobs) h))
      (λ few. of-cond (WrongLength s) (ltb most_stints (length s.stint_jobs)) (λ h. (refl, ltb-true most_stints (length s.stint_jobs) h))
      (λ short.
      unequal e (omega (arith, eqb-false (length s.jobs) 0 some)) (ltb-false most_jobs (length s.jobs) few)
      (ltb-false most_stints (length s.stint_jobs) short))))

  pub list-length-named : schedule_verdict s ≡ Err Refusal.ListLength → WrongLength s (finding_of s).fault
  unfolding finding_of
  list-length-named e = rw e (wrong-length (schedule-told s _ e).1.1.1)

  -- 7
  pub unlisted-stint-named : schedule_verdict s ≡ Err Refusal.UnlistedJob
      → NamesFirst s Fault.Stint (length s.stint_jobs) (below (length s.jobs) s.stint_jobs)
  unfolding jobs_listed
  unlisted-stint-named e = names-first s e refl (schedule-told s _ e).1.1.1.1

  -- 8
  pub long-stint-named : schedule_verdict s ≡ Err Refusal.TooManyTurns
      → NamesFirst s Fault.Stint (length s.stint_turns) (λ i. leb (get_or s.stint_turns i 0) most_turns)
  unfolding turns_fit
  long-stint-named e = names-first s e refl (schedule-told s _ e).1.1.1.1.1
