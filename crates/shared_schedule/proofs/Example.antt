-- A worked corollary of demand 3: a job alone, and the same job among as many others as a schedule may list.
use Rattle.std.specs.Prelude.{◌≡◌, refl, ℕ, ◌≤◌, ◌<◌, length}
use Rattle.std.proofs.Common.{sym, arith, lit<}
use Rattle.std.proofs.Math.Nat.{add-zero}
use Rattle.shared_limits.specs.Limits.{most_jobs}
use Rattle.shared_schedule.specs.Isolation.{ScheduleAccepted, package_address, of_job, total, turns_asked, NoneButLast, StopsInLastOnly, EndsAlike}
use Rattle.shared_schedule.proofs.Isolation.{isolation}
use Rattle.shared_schedule.specs.Laws.OneJob.{one_job, one-accepted}
use Rattle.shared_schedule.proofs.Refusals.{accepted-ready}
use Rattle.shared_schedule.specs.Laws.Stint.{stint-may-run}
use Rattle.shared_schedule.specs.Schedule.{Schedule, stints_of}

-- job i of a schedule in the same memory, without the others, in one stint of all the turns asked of it
abbrev pub alone : Schedule → ℕ → Schedule
alone s i = one_job s.memory s.central (package_address s i) (turns_asked s i)

module _ (s : Schedule) (a : ScheduleAccepted s) (i : ℕ) (li : i < length s.jobs) (most : turns_asked s i ≤ 65535) where
  alone-accepted : ScheduleAccepted (alone s i)
  alone-accepted =
      record {
        verdict = one-accepted s.memory (package_address s i) (turns_asked s i) s.central (stint-may-run s.memory s.central s.jobs (accepted-ready s a) i li) most;
        registers = a.registers;
      }

  one-stint : StopsInLastOnly (alone s i) 0
  unfolding of_job stints_of NoneButLast
  one-stint = tt

  asked-alone : turns_asked (alone s i) 0 ≡ turns_asked s i
  unfolding of_job total
  asked-alone = add-zero _

  -- the job ends as it does alone, however its turns were cut into stints and whatever ran between them
  pub ends-as-alone : StopsInLastOnly s i → EndsAlike s i (alone s i) 0
  ends-as-alone last =
      isolation s (alone s i) a alone-accepted i 0 li (lit< tt) last one-stint
      (record { packages = refl; fields = refl; asked = sym asked-alone })

-- a job among as many others as there may be
pub among-most-others : (s : Schedule) → ScheduleAccepted s → length s.jobs ≡ most_jobs → (i : ℕ) → i < most_jobs → turns_asked s i ≤ 65535
    → StopsInLastOnly s i → EndsAlike s i (alone s i) 0
among-most-others s a all i li most last = ends-as-alone s a i (omega arith) most last
