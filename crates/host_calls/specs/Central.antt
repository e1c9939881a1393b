-- The calls on the central processor, on a record of 29 numbers.
use Rattle.std.specs.Prelude.{cond, List, [], ◌∷◌, ℕ, leb, length}
use Rattle.std.proofs.lemmas.List.Edits.{sets}
use Rattle.central_record.specs.Record.{host_verdict}
use Rattle.single_calls.specs.RecordCalls.{CentralAnswered, turn_answer, exchange_answer}
use Rattle.single_calls.specs.Turns.{TurnsAnswered, turns_answer}
use Rattle.single_calls.specs.Program.{ProgramAnswered, program_answer}
use Rattle.host_answer.specs.Back.{kept, short_number}
use Rattle.host_record.specs.Layout.{central_numbers}
use Rattle.host_record.specs.Lent.{central_lent}

-- the number, the memory and the record
pub record CentralLeft : Type 0 where
  pub number : ℕ
  pub memory : List ℕ
  pub central : List ℕ

abbrev pub central_left : ℕ → List ℕ → List ℕ → CentralLeft
central_left n m c = record { number = n; memory = m; central = c }

abbrev pub central_left_by : List ℕ → CentralAnswered → CentralLeft
central_left_by c a =
    central_left a.number a.memory (kept a.answer.verdict (central_numbers a.answer.central) c)

unfoldable pub central_turn : List ℕ → List ℕ → CentralLeft
central_turn m c = central_left_by c (turn_answer m (central_lent c))

unfoldable pub central_exchange : List ℕ → List ℕ → ℕ → CentralLeft
central_exchange m c at = central_left_by c (exchange_answer m (central_lent c) at)

-- the number, the memory, the record and the result slice
pub record TurnsLeft : Type 0 where
  pub number : ℕ
  pub memory : List ℕ
  pub central : List ℕ
  pub result : List ℕ

abbrev pub turns_left : ℕ → List ℕ → List ℕ → List ℕ → TurnsLeft
turns_left n m c out = record { number = n; memory = m; central = c; result = out }

-- the turns made in the first entry; after a refusal "counts are 0"
abbrev pub turns_left_by : List ℕ → List ℕ → TurnsAnswered → TurnsLeft
turns_left_by c out a =
    turns_left a.number a.memory
    (kept a.answer.verdict (central_numbers a.answer.central) c) (sets out 0 (a.answer.turns ∷ []))

unfoldable pub central_turns : List ℕ → List ℕ → ℕ → List ℕ → TurnsLeft
central_turns m c n out =
    cond (leb 1 (length out)) (turns_left_by c out (turns_answer m (central_lent c) n))
    (turns_left (short_number (host_verdict m (central_lent c))) m c out)

-- the number, the memory and the result slice; the record is lent to be read alone, since a stint hands it back as it was
pub record ResultLeft : Type 0 where
  pub number : ℕ
  pub memory : List ℕ
  pub result : List ℕ

abbrev pub result_left : ℕ → List ℕ → List ℕ → ResultLeft
result_left n m out = record { number = n; memory = m; result = out }

-- the turns made and the stop from the first entry on; after a refusal "counts are 0"
abbrev pub program_left : List ℕ → ProgramAnswered → ResultLeft
program_left out a =
    result_left a.number a.memory (sets out 0 (a.answer.turns ∷ a.answer.stop ∷ []))

unfoldable pub program_run : List ℕ → List ℕ → ℕ → ℕ → List ℕ → ResultLeft
program_run m c at n out =
    cond (leb 2 (length out)) (program_left out (program_answer m (central_lent c) at n))
    (result_left (short_number (host_verdict m (central_lent c))) m out)
