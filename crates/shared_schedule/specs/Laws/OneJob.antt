-- The run of one program is the schedule of one job and one stint.
use Rattle.std.specs.Prelude.{Bool, true, false, not, ◌&&◌, cond, List, [], ◌∷◌, ◌≡◌, ℕ, ◌≤◌, ltb, leb, Ok, Err}
use Rattle.std.proofs.Math.Path.{refl}
use Rattle.std.proofs.Common.{sym, ◌∙◌}
use borrow.Author.Tests.{leb-true, leb-false, lt-ltb, le-ltb}
use Rattle.base_outcome.specs.declared.refusal.Refusal.TheVariants as Refusal
use Rattle.base_outcome.specs.Verdict.{Verdict}
use Rattle.base_lists.specs.Indexed.{all_below}
use Rattle.central_record.specs.Record.{host_verdict}
use Rattle.exchange_jump.specs.Jump.{package_verdict, package_inside, package_clean, field_inside}
use Rattle.exchange_jump.specs.Laws.Verdicts.{of-host-accepted, of-package-accepted}
use Rattle.central_record.specs.declared.record.Central.{Central}
use Rattle.base_outcome.specs.Order.{or_else}
use Rattle.single_calls.specs.Turns.{most_turns, turns_verdict}
use Rattle.shared_limits.specs.Limits.{jobs_fit}
use Rattle.single_calls.specs.Program.{overlap_verdict, owner_verdict, program_verdict}
use Rattle.base_outcome.specs.Laws.Verdict.{or-else-assoc}
use Rattle.single_stint.specs.Stint as Single
use Rattle.shared_schedule.specs.Refusals.{lists_fit, jobs_listed, turns_fit, lists_verdict, package_meets_field, jobs_apart, all_apart, owners_verdict, schedule_verdict}
use Rattle.shared_schedule.specs.Schedule.{Schedule}

abbrev pub one_job : List ℕ → Central → ℕ → ℕ → Schedule
one_job m c at n = record { memory = m; central = c; jobs = at ∷ []; stint_jobs = 0 ∷ []; stint_turns = n ∷ [] }

module _ (m : List ℕ) (at n : ℕ) where
  abbrev unless_too_many : Bool → Verdict
  unless_too_many fit = cond fit (Ok tt) (Err Refusal.TooManyTurns)

  one_list : lists_verdict (at ∷ []) (0 ∷ []) (n ∷ []) ≡ unless_too_many (leb n most_turns)
  unfolding lists_verdict lists_fit jobs_fit jobs_listed turns_fit all_below
  one_list = refl

  -- the order of the tests of one package, and of its field against it
  abbrev meets : Bool
  meets = package_meets_field m at at

  in_order : (inside clean field shared : Bool)
      → cond inside
      (cond clean
      (cond field (cond (not shared && true) (Ok tt) (Err Refusal.SharedWord)) (Err Refusal.FieldPastEnd))
      (Err Refusal.StrayBits))
      (Err Refusal.PackagePastEnd)
      ≡ or_else
      (cond inside
      (cond clean (cond field (Ok tt) (Err Refusal.FieldPastEnd)) (Err Refusal.StrayBits))
      (Err Refusal.PackagePastEnd))
      (cond shared (Err Refusal.SharedWord) (Ok tt))
  in_order true true true true = refl
  in_order true true true false = refl
  in_order true true false s = refl
  in_order true false f s = refl
  in_order false c f s = refl

  one-owner : owners_verdict m (at ∷ []) ≡ or_else (package_verdict m at) (overlap_verdict m at)
  unfolding owners_verdict all_apart jobs_apart all_below package_verdict overlap_verdict
  one-owner = in_order (package_inside m at) (package_clean m at) (field_inside m at) meets

  turns-tested : (fit : Bool) → leb n most_turns ≡ fit → unless_too_many fit ≡ cond (ltb most_turns n) (Err Refusal.TooManyTurns) (Ok tt)
  turns-tested true e = rw (le-ltb most_turns n (leb-true n most_turns e))
  turns-tested false e = rw (lt-ltb most_turns n (leb-false n most_turns e))

  pub one-verdict : (c : Central) → schedule_verdict (one_job m c at n) ≡ program_verdict m c at n
  unfolding schedule_verdict program_verdict turns_verdict owner_verdict
  one-verdict c = rw (one_list, one-owner, turns-tested (leb n most_turns) refl) (sym (or-else-assoc (host_verdict m c) _ _))

  -- where no number refuses
  pub one-accepted : (c : Central) → Single.StintAccepted m c at → n ≤ most_turns → schedule_verdict (one_job m c at n) ≡ Ok tt
  unfolding program_verdict turns_verdict owner_verdict overlap_verdict
  one-accepted c a h =
      one-verdict c ∙ rw (of-host-accepted m c a.host, le-ltb most_turns n h, of-package-accepted m at a.owner, a.apart)
