-- The calls on the central record itself.
use Rattle.std.specs.Prelude.{cond, List, ℕ, eqb, Result, Ok, Err}
use Rattle.base_outcome.specs.Numbers.{verdict_number}
use Rattle.base_outcome.specs.Verdict.{Verdict}
use Rattle.central_apply.specs.State.{state}
use Rattle.central_turn.specs.Turn.{stop_number, Turn, turn_of}
use Rattle.exchange_jump.specs.Jump.{package_verdict, exchanged}
use Rattle.base_lists.specs.Parts.{part, splice}
use Rattle.central_record.specs.Record.{host_verdict}
use Rattle.central_record.specs.declared.record.Central.{Central}
use Rattle.base_outcome.specs.Order.{or_else}
use Rattle.single_stint.specs.Field.{bounds_of}
use Rattle.base_outcome.specs.declared.refusal.Refusal.{Refusal}

-- what the host lends
pub record CentralMachine : Type 0 where
  pub memory : List ℕ
  pub central : Central

abbrev pub central_machine : List ℕ → Central → CentralMachine
central_machine m c = record { memory = m; central = c }

-- a turn leaves RA, FL and EM
abbrev pub central_after_turn : List ℕ → Central → Turn → CentralMachine
central_after_turn m c t =
    central_machine (splice m c.ra c.fl t.state.field)
    (record { p = t.end.p; ra = c.ra; fl = c.fl; em = c.em; registers = t.state.registers; stop = stop_number t.end.stop })

-- "A turn of a stopped processor changes nothing."
unfoldable pub turned_once : List ℕ → Central → CentralMachine
turned_once m c =
    cond (eqb c.stop 0) (central_after_turn m c (turn_of (bounds_of c) c.p (state c.registers (part m c.ra c.fl))))
    (central_machine m c)

-- the verdict and the record
pub record Answer : Type 0 where
  pub verdict : Verdict
  pub central : Central

-- of the record given and a call's result: a refusal gives the record back
abbrev pub answer_of : Central → Result Central Refusal → Answer
answer_of given (Ok after) = record { verdict = (Ok tt); central = after }
answer_of given (Err r) = record { verdict = Err r; central = given }

-- what the host gets back: the memory, the verdict's number, and the verdict with the record
pub record CentralAnswered : Type 0 where
  pub memory : List ℕ
  pub number : ℕ
  pub answer : Answer

abbrev pub central_answer_to : List ℕ → Answer → CentralAnswered
central_answer_to m o = record { memory = m; number = verdict_number o.verdict; answer = o }

abbrev pub central_answered : Verdict → CentralMachine → CentralAnswered
central_answered v h = central_answer_to h.memory (record { verdict = v; central = h.central })

-- "After a refusal the state comes back equal"
abbrev pub central_answer_by : Verdict → CentralMachine → CentralMachine → CentralAnswered
central_answer_by (Ok _) given after = central_answered (Ok tt) after
central_answer_by (Err r) given after = central_answered (Err r) given

-- a turn of the central processor: 1, 3, 5
unfoldable pub turn_answer : List ℕ → Central → CentralAnswered
turn_answer m c = central_answer_by (host_verdict m c) (central_machine m c) (turned_once m c)

-- 1, 3, 5, then 9, 10, 11
unfoldable pub exchange_verdict : List ℕ → Central → ℕ → Verdict
exchange_verdict m c at = or_else (host_verdict m c) (package_verdict m at)

-- an exchange jump
unfoldable pub exchange_answer : List ℕ → Central → ℕ → CentralAnswered
exchange_answer m c at =
    central_answer_by (exchange_verdict m c at) (central_machine m c) (central_machine (exchanged m c at).memory (exchanged m c at).central)
