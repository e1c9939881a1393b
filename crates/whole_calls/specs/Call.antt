-- The calls on the whole machine.
use Rattle.std.specs.Prelude.{List, ℕ, Result, Ok, Err}
use Rattle.base_outcome.specs.Numbers.{verdict_number}
use Rattle.base_outcome.specs.Verdict.{Verdict}
use Rattle.base_outcome.specs.declared.refusal.Refusal.{Refusal}
use Rattle.peripheral_machine.specs.Machine.{Machine}
use Rattle.whole_record.specs.Numbers.{record_of, machine_of}
use Rattle.whole_verdict.specs.Verdict.{processors_in, turn_verdict, run_verdict}
use Rattle.whole_record.specs.declared.record.MachineRecord.{MachineRecord}
use Rattle.whole_rounds.specs.Rounds.{RoundsRun, rounds_of}
use Rattle.whole_processors.specs.Processors.{processor_turned}
use Rattle.whole_calls.specs.declared.call.RoundsMade.{RoundsMade}

-- both memories, and a value beside them
pub record Left (A : Type 0) : Type 0 where
  pub central : List ℕ
  pub peripheral : List ℕ
  pub value : A

abbrev pub left : {A : Type 0} → List ℕ → List ℕ → A → Left A
left c m v = record { central = c; peripheral = m; value = v }

-- what turns left, with the record
abbrev pub left_by : Machine → Left MachineRecord
left_by h = left h.central h.peripheral (record_of h.registers h.numbers)

-- the same with the rounds made
abbrev pub left_after : RoundsRun → Left RoundsMade
left_after o =
    left o.machine.central o.machine.peripheral
    (record { machine = record_of o.machine.registers o.machine.numbers; rounds = o.rounds })

-- the verdict and the record
pub record TurnAnswer : Type 0 where
  pub verdict : Verdict
  pub machine : MachineRecord

-- the verdict, the record and the rounds made
pub record RunAnswer : Type 0 where
  pub verdict : Verdict
  pub machine : MachineRecord
  pub rounds : ℕ

-- what the host gets back: both memories, the verdict's number, and the verdict with the record, and of a run the rounds made
pub record MachineAnswered (A : Type 0) : Type 0 where
  pub central : List ℕ
  pub peripheral : List ℕ
  pub number : ℕ
  pub answer : A

abbrev pub machine_answered : {A : Type 0} → List ℕ → List ℕ → Verdict → A → MachineAnswered A
machine_answered c m v a = record { central = c; peripheral = m; number = verdict_number v; answer = a }

-- by the verdict, from what was lent and what the call left: "After a refusal the state comes back equal, counts are 0."
abbrev pub machine_answer_by : {A B : Type 0} → (Verdict → B → A) → Verdict → Left B → Left B → MachineAnswered A
machine_answer_by answer (Ok _) lent after =
    machine_answered after.central after.peripheral (Ok tt) (answer (Ok tt) after.value)
machine_answer_by answer (Err x) lent after =
    machine_answered lent.central lent.peripheral (Err x) (answer (Err x) lent.value)

abbrev pub turn_given : Verdict → MachineRecord → TurnAnswer
turn_given v r = record { verdict = v; machine = r }

-- the answer of a turn from this record on, which hands back a record where it is carried out
abbrev pub turn_answer_to : List ℕ → List ℕ → MachineRecord → Result MachineRecord Refusal → MachineAnswered TurnAnswer
turn_answer_to c m before (Ok after) = machine_answered c m (Ok tt) (turn_given (Ok tt) after)
turn_answer_to c m before (Err x) = machine_answered c m (Err x) (turn_given (Err x) before)

-- a turn of peripheral processor n: 1 to 5
unfoldable pub peripheral_turn_answer : List ℕ → List ℕ → MachineRecord → ℕ → MachineAnswered TurnAnswer
peripheral_turn_answer c m r n = machine_answer_by turn_given (turn_verdict c m r n) (left c m r) (left_by (processor_turned (machine_of c m r) n))

abbrev pub run_given : Verdict → RoundsMade → RunAnswer
run_given v o = record { verdict = v; machine = o.machine; rounds = o.rounds }

-- the same of a run, of which no round is made where it is refused
abbrev pub run_answer_to : List ℕ → List ℕ → MachineRecord → Result RoundsMade Refusal → MachineAnswered RunAnswer
run_answer_to c m before (Ok o) = machine_answered c m (Ok tt) (run_given (Ok tt) o)
run_answer_to c m before (Err x) = machine_answered c m (Err x) (run_given (Err x) (record { machine = before; rounds = 0 }))

-- a run of n rounds of all processors that are there: 1 to 5, 8
unfoldable pub run_answer : List ℕ → List ℕ → MachineRecord → ℕ → MachineAnswered RunAnswer
run_answer c m r n =
    machine_answer_by run_given (run_verdict c m r n) (left c m (record { machine = r; rounds = 0 }))
    (left_after (rounds_of n (processors_in m) (machine_of c m r)))
