-- Who is at fault in a refused schedule, for numbers 6 to 12. By number: "jobs and stints are numbered from 0".
use Rattle.std.specs.Prelude.{Bool, cond, List, ℕ, eqb, ltb, leb, length, get_or, Option, Some, None, Result, Ok, Err}
use Rattle.base_outcome.specs.declared.refusal.Refusal.{Refusal}
use Rattle.base_outcome.specs.Verdict.{Verdict}
use Rattle.base_lists.specs.Indexed.{all_below}
use Rattle.central_record.specs.Record.{below}
use Rattle.exchange_jump.specs.Jump.{package_inside, package_clean, field_inside}
use Rattle.single_calls.specs.Turns.{most_turns}
use Rattle.shared_limits.specs.Limits.{most_jobs, most_stints}
use Rattle.shared_schedule.specs.Refusals.{package_meets_field, packages_meet, jobs_apart, schedule_verdict}
use Rattle.shared_schedule.specs.Schedule.{Schedule}
use Rattle.shared_fault.specs.Search.{first_failing}
use Rattle.shared_fault.specs.declared.fault.Fault.{Fault}
use Rattle.shared_fault.specs.declared.finding.Finding.{Finding}

-- 6 "no job, over .. jobs, over .. stints, or lists of unequal length", of so many jobs and stints: the first past the limit is
-- the one whose number is the limit, and of two lists neither is at fault by itself
unfoldable pub length_fault : ℕ → ℕ → Option Fault
length_fault jobs stints =
    cond (eqb jobs 0) (Some Fault.NoJob)
    (cond (ltb most_jobs jobs) (Some (Fault.Job most_jobs))
    (cond (ltb most_stints stints) (Some (Fault.Stint most_stints)) None))

-- 7 "stint of no listed job"
abbrev pub first_unlisted : List ℕ → List ℕ → ℕ
first_unlisted jobs stint_jobs = first_failing (length stint_jobs) (below (length jobs) stint_jobs)

-- 8 "a stint over 65,535 turns"
abbrev pub first_too_long : List ℕ → ℕ
first_too_long stint_turns = first_failing (length stint_turns) (λ i. leb (get_or stint_turns i 0) most_turns)

-- 9 to 11: the first job whose package address a test refuses
abbrev pub first_job : List ℕ → (ℕ → Bool) → ℕ
first_job jobs test = first_failing (length jobs) (λ i. test (get_or jobs i 0))

-- 12 "any two of the listed packages and fields share a word": the first job that is not apart from all, and the first that it is not apart from
abbrev pub first_not_apart : List ℕ → List ℕ → ℕ
first_not_apart m jobs = first_failing (length jobs) (λ i. all_below (length jobs) (jobs_apart m jobs i))

abbrev pub first_met : List ℕ → List ℕ → ℕ → ℕ
first_met m jobs i = first_failing (length jobs) (jobs_apart m jobs i)

-- what two jobs that are not apart have a word of in common
unfoldable pub pair_fault : List ℕ → List ℕ → ℕ → ℕ → Fault
pair_fault m jobs i j =
    cond (package_meets_field m (get_or jobs i 0) (get_or jobs j 0)) (Fault.PackageField i j)
    (cond (packages_meet (get_or jobs i 0) (get_or jobs j 0)) (Fault.Packages i j) (Fault.Fields i j))

abbrev pub overlap_fault : List ℕ → List ℕ → Fault
overlap_fault m jobs = pair_fault m jobs (first_not_apart m jobs) (first_met m jobs (first_not_apart m jobs))

abbrev pub fault_by : Refusal → Schedule → Option Fault
-- 1 to 5: the host's
fault_by Refusal.CentralLength s = None
fault_by Refusal.PeripheralLength s = None
fault_by Refusal.CentralWord s = None
fault_by Refusal.PeripheralWord s = None
fault_by Refusal.RecordValue s = None
-- 6 to 8: the schedule writer's
fault_by Refusal.ListLength s = length_fault (length s.jobs) (length s.stint_jobs)
fault_by Refusal.UnlistedJob s = Some (Fault.Stint (first_unlisted s.jobs s.stint_jobs))
fault_by Refusal.TooManyTurns s = Some (Fault.Stint (first_too_long s.stint_turns))
-- 9 to 12: the package owners'
fault_by Refusal.PackagePastEnd s = Some (Fault.Job (first_job s.jobs (package_inside s.memory)))
fault_by Refusal.StrayBits s = Some (Fault.Job (first_job s.jobs (package_clean s.memory)))
fault_by Refusal.FieldPastEnd s = Some (Fault.Job (first_job s.jobs (field_inside s.memory)))
fault_by Refusal.SharedWord s = Some (overlap_fault s.memory s.jobs)
-- 13 to 16: never a schedule's
fault_by Refusal.DeviceWord s = None
fault_by Refusal.PutUnmet s = None
fault_by Refusal.TakeUnmet s = None
fault_by Refusal.UnreadableLine s = None

-- by the verdict: an accepted schedule has nobody at fault
abbrev pub fault_of : Verdict → Schedule → Option Fault
fault_of (Ok _) s = None
fault_of (Err r) s = fault_by r s

pub record VerdictAndFault : Type 0 where
  pub verdict : Verdict
  pub fault : Option Fault

abbrev pub finding_to : Verdict → Option Fault → VerdictAndFault
finding_to v f = record { verdict = v; fault = f }

-- what a search for a fault gives: an accepted schedule has none
abbrev pub told_by : Result Unit Finding → VerdictAndFault
told_by (Ok _) = finding_to (Ok tt) None
told_by (Err f) = finding_to (Err f.refusal) f.fault

unfoldable pub finding_of : Schedule → VerdictAndFault
finding_of s = finding_to (schedule_verdict s) (fault_of (schedule_verdict s) s)
