-- What a schedule's stints hand back, as arrays with an entry for each stint that there may be.
use Rattle.std.specs.Prelude.{List, [], ◌++◌, ◌≡◌, ℕ, ◌-◌, ◌≤◌, length, map, replicate, Result, Ok, Err}
use Rattle.base_outcome.specs.Numbers.{verdict_number}
use Rattle.base_outcome.specs.Verdict.{Verdict}
use Rattle.central_record.specs.declared.record.Central.{Central}
use Rattle.shared_limits.specs.Limits.{most_stints}
use Rattle.shared_schedule.specs.Refusals.{schedule_verdict}
use Rattle.shared_schedule.specs.Ready.{Ready, Listed}
use Rattle.shared_schedule.specs.Schedule.{Schedule, ScheduleEnd, schedule_end}
use Rattle.base_outcome.specs.declared.refusal.Refusal.{Refusal}
use Rattle.central_turn.specs.Turn.{stop_number}
use Rattle.shared_calls.specs.declared.stints.StintResult.{StintResult}
use Rattle.shared_calls.specs.declared.stints.StintsEnd.{StintsEnd}

-- what is asked for a list of stints: no number refuses them
pub record MayRun (m : List ℕ) (c : Central) (jobs js ts : List ℕ) : Type 0 where
  pub ready : Ready m c jobs
  pub listed : Listed jobs js
  pub even : length js ≡ length ts
  pub most : length js ≤ most_stints

-- the record, and of each stint the turns made and the stop's number, or 0
pub record StintsLeft : Type 0 where
  pub central : Central
  pub turns : List ℕ
  pub stops : List ℕ

pub record StintsMemory : Type 0 where
  pub memory : List ℕ
  pub end : StintsLeft

abbrev pub turns_in : List StintResult → List ℕ
turns_in results = map (λ (r : StintResult). r.turns) results

abbrev pub stops_in : List StintResult → List ℕ
stops_in results = map (λ (r : StintResult). stop_number r.stop) results

abbrev pub stints_to : List ℕ → StintsEnd → StintsMemory
stints_to m o =
    record { memory = m; end = record { central = o.central; turns = turns_in o.results; stops = stops_in o.results } }

-- a list with an entry for each stint, and 0 past the last
abbrev pub padded : List ℕ → List ℕ
padded xs = xs ++ replicate (most_stints - length xs) 0

abbrev pub in_arrays : ScheduleEnd → StintsMemory
in_arrays o =
    record {
      memory = o.memory;
      end = record { central = o.central; turns = padded o.turns; stops = padded o.stops };
    }

-- the verdict, the record, and of each stint the turns made and the stop's number, or 0
pub record ScheduleAnswer : Type 0 where
  pub verdict : Verdict
  pub central : Central
  pub turns : List ℕ
  pub stops : List ℕ

-- of the record given and a call's result: a refusal gives the record back, and no turns and no stops
abbrev pub schedule_answer_of : Central → Result StintsEnd Refusal → ScheduleAnswer
schedule_answer_of given (Ok o) =
    record { verdict = (Ok tt); central = o.central; turns = turns_in o.results; stops = stops_in o.results }
schedule_answer_of given (Err r) =
    record { verdict = Err r; central = given; turns = padded []; stops = padded [] }

-- what the host gets back: the memory, the verdict's number, and the verdict with the record and the results of the stints
pub record ScheduleAnswered : Type 0 where
  pub memory : List ℕ
  pub number : ℕ
  pub answer : ScheduleAnswer

abbrev pub schedule_answer_to : List ℕ → ScheduleAnswer → ScheduleAnswered
schedule_answer_to m o = record { memory = m; number = verdict_number o.verdict; answer = o }

-- "A call that meets none of these conditions is carried out. After a refusal the state comes back equal, counts are 0."
abbrev pub schedule_answer_by : Verdict → Schedule → ScheduleAnswered
schedule_answer_by (Ok _) s =
    schedule_answer_to (schedule_end s).memory
    (record {
      verdict = (Ok tt);
      central = (schedule_end s).central;
      turns = padded (schedule_end s).turns;
      stops = padded (schedule_end s).stops;
    })
schedule_answer_by (Err r) s =
    schedule_answer_to s.memory
    (record { verdict = Err r; central = s.central; turns = padded []; stops = padded [] })

unfoldable pub schedule_answer : Schedule → ScheduleAnswered
schedule_answer s = schedule_answer_by (schedule_verdict s) s
