-- Demand 3, as it stands in the demands, document 00, with the words that document 01 fixes under "Words of demand 3". Each definition
-- quotes the clause that it states: of the demand at `Alike`, `StopsInLastOnly`, `EndsAlike`, `Isolation` and `RestKept`, else of
-- document 01. Laws.Isolation proves it.
use Rattle.std.specs.Prelude.{cond, List, [], ◌∷◌, ◌⊎◌, ◌≡◌, ℕ, ◌+◌, ◌≤◌, ◌<◌, eqb, length, get_or, Ok}
use Rattle.exchange_jump.specs.Jump.{record_at}
use Rattle.base_lists.specs.Parts.{part}
use Rattle.central_record.specs.declared.record.Central.{Central}
use Rattle.shared_schedule.specs.Schedule.{Schedule, schedule_end}
use Rattle.shared_schedule.specs.Refusals.{schedule_verdict}

-- "it is accepted where no number refuses it"; a record of the host's has 24 registers by its type
pub record ScheduleAccepted (s : Schedule) : Type 0 where
  pub verdict : schedule_verdict s ≡ Ok tt
  pub registers : length s.central.registers ≡ 24

-- "The start is the memory given, the end the memory handed back."
abbrev pub start : Schedule → List ℕ
start s = s.memory

abbrev pub end : Schedule → List ℕ
end s = (schedule_end s).memory

-- the address of a job's package, and the record there at the start
abbrev pub package_address : Schedule → ℕ → ℕ
package_address s i = get_or s.jobs i 0

abbrev pub first_record : Schedule → ℕ → Central
first_record s i = record_at (start s) (package_address s i)

-- the sixteen words of a job's package in a memory
abbrev pub package_in : Schedule → ℕ → List ℕ → List ℕ
package_in s i m = part m (package_address s i) 16

-- "A job's field is the words from RA up to, but without, RA + FL, by its package at the start."
abbrev pub field_in : Schedule → ℕ → List ℕ → List ℕ
field_in s i m = part m (first_record s i).ra (first_record s i).fl

-- of a list with an entry for each stint, those of job i's stints
unfoldable pub of_job : ℕ → List ℕ → List ℕ → List ℕ
of_job i [] xs = []
of_job i (j ∷ js) [] = []
of_job i (j ∷ js) (x ∷ xs) = cond (eqb j i) (x ∷ of_job i js xs) (of_job i js xs)

unfoldable pub total : List ℕ → ℕ
total [] = 0
total (x ∷ xs) = x + total xs

-- "The turns asked of a job are the sum over its stints in the list, the turns it made the sum of the counts of turns made in them;
-- both are 0 without a stint."
abbrev pub turns_asked : Schedule → ℕ → ℕ
turns_asked s i = total (of_job i s.stint_jobs s.stint_turns)

abbrev pub turns_made : Schedule → ℕ → ℕ
turns_made s i = total (of_job i s.stint_jobs (schedule_end s).turns)

-- the last entry, or 0 without one
unfoldable pub last_of : List ℕ → ℕ
last_of [] = 0
last_of (x ∷ []) = x
last_of (x ∷ y ∷ xs) = last_of (y ∷ xs)

-- "Its stop is that of its last stint in the list; it has none where that stint gave none or it has no stint." 0 is none.
abbrev pub stop_of : Schedule → ℕ → ℕ
stop_of s i = last_of (of_job i s.stint_jobs (schedule_end s).stops)

-- every entry but the last is 0
unfoldable pub NoneButLast : List ℕ → Type 0
NoneButLast [] = Unit {0}
NoneButLast (x ∷ []) = Unit {0}
NoneButLast (x ∷ y ∷ xs) = (x ≡ 0) × NoneButLast (y ∷ xs)

-- "let it stop in no stint but its last in either": here of one schedule, and `Isolation` asks it of both
abbrev pub StopsInLastOnly : Schedule → ℕ → Type 0
StopsInLastOnly s i = NoneButLast (of_job i s.stint_jobs (schedule_end s).stops)

-- "Let them be alike in its package and its field at the start and in the sum of the central turns that its stints ask". Document 01: "Two
-- packages are alike where they hold the same sixteen words in the same order, two fields where they hold the same words in the same order."
pub record Alike (s : Schedule) (i : ℕ) (s' : Schedule) (i' : ℕ) : Type 0 where
  pub packages : package_in s i (start s) ≡ package_in s' i' (start s')
  pub fields : field_in s i (start s) ≡ field_in s' i' (start s')
  pub asked : turns_asked s i ≡ turns_asked s' i'

-- "both end alike in its package, its field, the sum of the turns it made and its stop or none"
pub record EndsAlike (s : Schedule) (i : ℕ) (s' : Schedule) (i' : ℕ) : Type 0 where
  pub packages : package_in s i (end s) ≡ package_in s' i' (end s')
  pub fields : field_in s i (end s) ≡ field_in s' i' (end s')
  pub made : turns_made s i ≡ turns_made s' i'
  pub stop : stop_of s i ≡ stop_of s' i'

-- "Take any two accepted schedules, each with any list of stints, and a program that is a job in both." i is its number in one, i' in the
-- other. The two may differ in all else: "whatever the number and size of its stints, whatever the order in which all stints stand, whatever
-- the other programs' packages, fields and stints are and whatever any other word holds". Document 01: "The two schedules may differ in all
-- that is not named as alike, even in the length of memory, the central record, the package's address and the job's number."
abbrev pub Isolation : Type 0
Isolation =
    (s s' : Schedule) → ScheduleAccepted s → ScheduleAccepted s'
    → (i i' : ℕ) → i < length s.jobs → i' < length s'.jobs
    → StopsInLastOnly s i → StopsInLastOnly s' i'
    → Alike s i s' i' → EndsAlike s i s' i'

-- in memory m the word at x is neither in the package at an address nor in the field of that package
pub record Outside (m : List ℕ) (at x : ℕ) : Type 0 where
  pub package-free : (x < at) ⊎ (at + 16 ≤ x)
  pub field-free : (x < (record_at m at).ra) ⊎ ((record_at m at).ra + (record_at m at).fl ≤ x)

abbrev pub OutsideJobs : Schedule → ℕ → Type 0
OutsideJobs s x = (i : ℕ) → i < length s.jobs → Outside (start s) (package_address s i) x

-- "And in every accepted schedule each word outside the listed packages and fields holds at the end exactly what it held at the start."
-- Memory keeps its length, too.
abbrev pub RestKept : Type 0
RestKept =
    (s : Schedule) → ScheduleAccepted s
    → (length (end s) ≡ length (start s))
    × ((x : ℕ) → OutsideJobs s x → get_or (end s) x 0 ≡ get_or (start s) x 0)

-- "A schedule hands the central record back as it was, stop included."
abbrev pub RecordKept : Type 0
RecordKept = (s : Schedule) → ScheduleAccepted s → (schedule_end s).central ≡ s.central
