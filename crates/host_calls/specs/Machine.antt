-- The calls on the whole machine, on a record of 108 numbers.
use Rattle.std.specs.Prelude.{true, cond, List, [], ◌∷◌, ℕ, leb, length}
use Rattle.std.proofs.lemmas.List.Edits.{sets}
use Rattle.whole_verdict.specs.Verdict.{machine_verdict}
use Rattle.whole_calls.specs.Call.{TurnAnswer, RunAnswer, MachineAnswered, peripheral_turn_answer, run_answer}
use Rattle.host_answer.specs.Back.{kept, short_number}
use Rattle.host_record.specs.Layout.{machine_numbers}
use Rattle.host_record.specs.Lent.{machine_lent}

-- the number, both memories and the record
pub record MachineLeft : Type 0 where
  pub number : ℕ
  pub central : List ℕ
  pub peripheral : List ℕ
  pub machine : List ℕ

abbrev pub machine_left : ℕ → List ℕ → List ℕ → List ℕ → MachineLeft
machine_left n c m r = record { number = n; central = c; peripheral = m; machine = r }

abbrev pub machine_left_by : List ℕ → MachineAnswered TurnAnswer → MachineLeft
machine_left_by r a =
    machine_left a.number a.central a.peripheral
    (kept a.answer.verdict (machine_numbers a.answer.machine) r)

unfoldable pub processor_turn : List ℕ → List ℕ → List ℕ → ℕ → MachineLeft
processor_turn c m r n = machine_left_by r (peripheral_turn_answer c m (machine_lent r) n)

-- the same with the result slice
pub record RunLeft : Type 0 where
  pub number : ℕ
  pub central : List ℕ
  pub peripheral : List ℕ
  pub machine : List ℕ
  pub result : List ℕ

abbrev pub run_left : ℕ → List ℕ → List ℕ → List ℕ → List ℕ → RunLeft
run_left n c m r out = record { number = n; central = c; peripheral = m; machine = r; result = out }

-- the rounds made in the first entry; after a refusal "counts are 0"
abbrev pub run_left_by : List ℕ → List ℕ → MachineAnswered RunAnswer → RunLeft
run_left_by r out a =
    run_left a.number a.central a.peripheral
    (kept a.answer.verdict (machine_numbers a.answer.machine) r) (sets out 0 (a.answer.rounds ∷ []))

unfoldable pub machine_run : List ℕ → List ℕ → List ℕ → ℕ → List ℕ → RunLeft
machine_run c m r n out =
    cond (leb 1 (length out)) (run_left_by r out (run_answer c m (machine_lent r) n))
    (run_left (short_number (machine_verdict true c m (machine_lent r))) c m r out)
