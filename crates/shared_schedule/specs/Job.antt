-- A job by itself: the words of its package and of its field, and its own stints on these alone.
use Rattle.std.specs.Prelude.{List, [], ◌∷◌, ℕ, get_or}
use Rattle.central_apply.specs.State.{state}
use Rattle.central_turn.specs.Turn.{stop_number, Run}
use Rattle.exchange_jump.specs.Jump.{record_at}
use Rattle.base_lists.specs.Parts.{part}
use Rattle.exchange_package.specs.Package.{coded, package_record}
use Rattle.single_stint.specs.Field.{record_after, turns_on}
use Rattle.single_stint.specs.Stint.{StintMemory}
use Rattle.shared_schedule.specs.Isolation.{of_job}
use Rattle.shared_schedule.specs.Schedule.{Schedule, ScheduleEnd, schedule_end}

pub record Job : Type 0 where
  pub package_words : List ℕ
  pub field_words : List ℕ

-- the job whose package stands at an address
abbrev pub job_at : List ℕ → ℕ → Job
job_at m at = record { package_words = part m at 16; field_words = part m (record_at m at).ra (record_at m at).fl }

-- up to n turns of the package's record on the field
abbrev pub job_run : ℕ → Job → Run
job_run n w = turns_on n (package_record w.package_words) w.field_words

-- the job after them
abbrev pub job_after : Job → Run → Job
job_after w o = record { package_words = coded (record_after (package_record w.package_words) o); field_words = o.state.field }

-- the job after a stint, the turns made, and the stop's number, or 0
pub record JobStint : Type 0 where
  pub job : Job
  pub turns : ℕ
  pub stop : ℕ

abbrev pub job_stint : ℕ → Job → JobStint
job_stint n w = record { job = job_after w (job_run n w); turns = (job_run n w).end.turns; stop = stop_number (job_run n w).end.stop }

-- the job after a list of stints, and of each the turns made and the stop's number, or 0
pub record JobEnd : Type 0 where
  pub job : Job
  pub turns : List ℕ
  pub stops : List ℕ

abbrev pub job_stint_then : JobStint → JobEnd → JobEnd
job_stint_then o l = record { job = l.job; turns = o.turns ∷ l.turns; stops = o.stop ∷ l.stops }

-- stints of so many turns each, one after the other
unfoldable pub job_stints : List ℕ → Job → JobEnd
job_stints [] w = record { job = w; turns = []; stops = [] }
job_stints (t ∷ ts) w = job_stint_then (job_stint t w) (job_stints ts (job_stint t w).job)

-- what a stint left of the job whose package stands at an address
abbrev pub left_at : StintMemory → ℕ → JobStint
left_at o at = record { job = job_at o.memory at; turns = o.end.turns; stop = o.end.stop }

-- what the stints js of the jobs left of job i
abbrev pub part_of_job : ℕ → List ℕ → List ℕ → ScheduleEnd → JobEnd
part_of_job i jobs js o =
    record { job = job_at o.memory (get_or jobs i 0); turns = of_job i js o.turns; stops = of_job i js o.stops }

-- what a schedule left of job i, and what its own stints alone leave of it
abbrev pub seen_by_job : Schedule → ℕ → JobEnd
seen_by_job s i = part_of_job i s.jobs s.stint_jobs (schedule_end s)

abbrev pub own_stints : Schedule → ℕ → JobEnd
own_stints s i = job_stints (of_job i s.stint_jobs s.stint_turns) (job_at s.memory (get_or s.jobs i 0))
