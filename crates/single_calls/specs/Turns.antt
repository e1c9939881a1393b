-- The call that makes many turns of the central record as it stands, without an exchange jump.
use Rattle.std.specs.Prelude.{cond, List, ℕ, zero, suc, ◌+◌, eqb, ltb, Result, Ok, Err}
use Rattle.base_outcome.specs.Numbers.{verdict_number}
use Rattle.base_outcome.specs.declared.refusal.Refusal.TheVariants as Because
use Rattle.base_outcome.specs.Verdict.{Verdict}
use Rattle.central_record.specs.Record.{host_verdict}
use Rattle.central_record.specs.declared.record.Central.{Central}
use Rattle.base_outcome.specs.Order.{or_else}
use Rattle.single_calls.specs.RecordCalls.{CentralMachine, central_machine, turned_once}
use Rattle.base_outcome.specs.declared.refusal.Refusal.{Refusal}
use Rattle.single_stint.specs.declared.field.Ran.{Ran}

-- memory and record after several turns, and how many were made
pub record Turned : Type 0 where
  pub machine : CentralMachine
  pub turns : ℕ

abbrev pub turned_to : CentralMachine → ℕ → Turned
turned_to h n = record { machine = h; turns = n }

-- n turns before what o made
abbrev pub more_turned : ℕ → Turned → Turned
more_turned n o = turned_to o.machine (n + o.turns)

-- up to n turns, ended early by a stop. "A turn of a stopped processor changes nothing", and none is made of one.
-- "The count of turns made is the number of turns the definition takes, the stopping one included."
unfoldable pub turned_up_to : ℕ → CentralMachine → Turned
turned_up_to zero h = turned_to h 0
turned_up_to (suc n) h =
    cond (eqb h.central.stop 0) (more_turned 1 (turned_up_to n (turned_once h.memory h.central))) (turned_to h 0)

-- 8 "a stint over 65,535 turns"
abbrev pub most_turns : ℕ
most_turns = 65535

-- 1, 3, 5, then 8
unfoldable pub turns_verdict : List ℕ → Central → ℕ → Verdict
turns_verdict m c n = or_else (host_verdict m c) (cond (ltb most_turns n) (Err Because.TooManyTurns) (Ok tt))

-- the verdict, the record and the turns made
pub record TurnsAnswer : Type 0 where
  pub verdict : Verdict
  pub central : Central
  pub turns : ℕ

-- of the record given and a call's result: a refusal gives the record back, and makes no turn
abbrev pub turns_answer_of : Central → Result Ran Refusal → TurnsAnswer
turns_answer_of given (Ok o) = record { verdict = (Ok tt); central = o.central; turns = o.turns }
turns_answer_of given (Err r) = record { verdict = Err r; central = given; turns = 0 }

-- what the host gets back: the memory, the verdict's number, and the verdict with the record and the turns made
pub record TurnsAnswered : Type 0 where
  pub memory : List ℕ
  pub number : ℕ
  pub answer : TurnsAnswer

abbrev pub turns_answer_to : List ℕ → TurnsAnswer → TurnsAnswered
turns_answer_to m o = record { memory = m; number = verdict_number o.verdict; answer = o }

abbrev pub turns_answered : Verdict → Turned → TurnsAnswered
turns_answered v o =
    turns_answer_to o.machine.memory (record { verdict = v; central = o.machine.central; turns = o.turns })

-- "After a refusal the state comes back equal, counts are 0."
abbrev pub turns_answer_by : Verdict → CentralMachine → Turned → TurnsAnswered
turns_answer_by (Ok _) given after = turns_answered (Ok tt) after
turns_answer_by (Err r) given after = turns_answered (Err r) (turned_to given 0)

-- up to n turns of the central processor
unfoldable pub turns_answer : List ℕ → Central → ℕ → TurnsAnswered
turns_answer m c n = turns_answer_by (turns_verdict m c n) (central_machine m c) (turned_up_to n (central_machine m c))
