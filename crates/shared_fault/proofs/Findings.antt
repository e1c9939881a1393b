-- The finding by the verdict, and the search that names a job or a stint.
use Rattle.std.specs.Prelude.{Bool, false, ◌≡◌, ℕ, Option, Some, None, Ok, Err}
use Rattle.std.proofs.Common.{sym, ap, ◌∙◌}
use Rattle.base_lists.specs.Indexed.{all_below}
use Rattle.base_outcome.specs.declared.refusal.Refusal.{Refusal}
use Rattle.base_outcome.specs.Verdict.{Verdict}
use Rattle.shared_schedule.specs.Refusals.{schedule_verdict}
use Rattle.shared_schedule.specs.Schedule.{Schedule}
use Rattle.shared_fault.specs.Fault.{fault_by, finding_to, finding_of}
use Rattle.shared_fault.specs.Search.{first_failing}
use Rattle.shared_fault.proofs.Search.{First, first-failing}
use Rattle.shared_fault.specs.declared.fault.Fault.{Fault}

-- a verdict that is a refusal by its case
module _ {v : Verdict} {r q : Refusal} (s : Schedule) (e : v ≡ schedule_verdict s) (refused : v ≡ Err r) (case : r ≡ q) where
  pub refused_as : schedule_verdict s ≡ Err q
  refused_as = sym e ∙ refused ∙ ap Err case

  pub refused-finding : {f : Option Fault} → f ≡ fault_by q s → finding_to (Err r) f ≡ finding_of s
  unfolding finding_of
  refused-finding h = rw (refused_as, case, h)

-- an accepted schedule names nobody
pub accepted-names-nobody : (s : Schedule) → schedule_verdict s ≡ Ok tt → finding_of s ≡ finding_to (Ok tt) None
unfolding finding_of
accepted-names-nobody s e = rw e

-- what is named is the first of n that a test refuses
pub record NamesFirst (s : Schedule) (name : ℕ → Fault) (n : ℕ) (test : ℕ → Bool) : Type 0 where
  pub number : ℕ
  pub named : (finding_of s).fault ≡ Some (name number)
  pub first : First test n number

-- 7 to 11, each by its test
pub names-first : (s : Schedule) {r : Refusal} {name : ℕ → Fault} {n : ℕ} {test : ℕ → Bool} → schedule_verdict s ≡ Err r
    → fault_by r s ≡ Some (name (first_failing n test)) → all_below n test ≡ false → NamesFirst s name n test
unfolding finding_of
names-first s {n = n} {test = test} e f h = record { number = first_failing n test; named = rw e f; first = first-failing test n h }
