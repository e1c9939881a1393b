-- A schedule, by document 01, "Words of demand 3". "Schedule" and "job" are its words: a job is a listed program, a schedule the order in which
-- the jobs get their stints.
use Rattle.std.specs.Prelude.{List, [], ◌∷◌, ℕ, get_or}
use Rattle.central_record.specs.declared.record.Central.{Central}
use Rattle.single_stint.specs.Stint.{StintMemory, stint_of}

-- "A schedule is given a memory, a central record, its jobs as a list of package addresses, and its stints as two lists, the job and the turns of each"
pub record Schedule : Type 0 where
  pub memory : List ℕ
  pub central : Central
  pub jobs : List ℕ
  pub stint_jobs : List ℕ
  pub stint_turns : List ℕ

abbrev pub schedule_of : List ℕ → Central → List ℕ → List ℕ → List ℕ → Schedule
schedule_of m c jobs js ts = record { memory = m; central = c; jobs = jobs; stint_jobs = js; stint_turns = ts }

-- the memory and the record handed back, and of each stint the turns made and the stop's number, or 0
pub record ScheduleEnd : Type 0 where
  pub memory : List ℕ
  pub central : Central
  pub turns : List ℕ
  pub stops : List ℕ

-- a stint, and then the stints after it
abbrev pub stint_then : StintMemory → ScheduleEnd → ScheduleEnd
stint_then s o =
    record {
      memory = o.memory;
      central = o.central;
      turns = s.end.turns ∷ o.turns;
      stops = s.end.stop ∷ o.stops;
    }

-- "The stints run in the order listed, the first on the memory and record given, each later one on what the one before it left":
-- the jobs' packages, the job and the turns of each stint, memory and record
unfoldable pub stints_of : List ℕ → List ℕ → List ℕ → List ℕ → Central → ScheduleEnd
stints_of jobs [] ts m c = record { memory = m; central = c; turns = []; stops = [] }
stints_of jobs (j ∷ js) [] m c = record { memory = m; central = c; turns = []; stops = [] }
stints_of jobs (j ∷ js) (t ∷ ts) m c =
    stint_then (stint_of m c (get_or jobs j 0) t)
    (stints_of jobs js ts (stint_of m c (get_or jobs j 0) t).memory (stint_of m c (get_or jobs j 0) t).end.central)

-- the end of a schedule
abbrev pub schedule_end : Schedule → ScheduleEnd
schedule_end s = stints_of s.jobs s.stint_jobs s.stint_turns s.memory s.central
