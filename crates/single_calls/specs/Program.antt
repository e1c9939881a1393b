-- The call that runs one program.
use Rattle.std.specs.Prelude.{cond, List, ℕ, Result, Ok, Err}
use Rattle.base_outcome.specs.Numbers.{verdict_number}
use Rattle.base_outcome.specs.declared.refusal.Refusal.TheVariants as Because
use Rattle.base_outcome.specs.Verdict.{Verdict}
use Rattle.exchange_jump.specs.Jump.{record_at, package_verdict}
use Rattle.central_record.specs.declared.record.Central.{Central}
use Rattle.base_outcome.specs.Order.{or_else}
use Rattle.single_calls.specs.Turns.{turns_verdict}
use Rattle.base_lists.specs.Overlap.{shares_word}
use Rattle.single_stint.specs.Stint.{StintMemory, stint_of}
use Rattle.base_outcome.specs.declared.refusal.Refusal.{Refusal}
use Rattle.single_stint.specs.declared.stint.StintEnd.{StintEnd}
use Rattle.central_turn.specs.Turn.{stop_number}

-- "12 any two of the listed packages and fields share a word": here one package and one field
unfoldable pub overlap_verdict : List ℕ → ℕ → Verdict
overlap_verdict m at =
    cond (shares_word at 16 (record_at m at).ra (record_at m at).fl) (Err Because.SharedWord) (Ok tt)

-- 9, 10, 11, then 12
unfoldable pub owner_verdict : List ℕ → ℕ → Verdict
owner_verdict m at = or_else (package_verdict m at) (overlap_verdict m at)

-- 1, 3, 5, 8, then 9 to 12
unfoldable pub program_verdict : List ℕ → Central → ℕ → ℕ → Verdict
program_verdict m c at n = or_else (turns_verdict m c n) (owner_verdict m at)

-- the verdict, the record, the turns made, and the stop's number, or 0
pub record ProgramAnswer : Type 0 where
  pub verdict : Verdict
  pub central : Central
  pub turns : ℕ
  pub stop : ℕ

-- of the record given and a call's result: a refusal gives the record back, makes no turn and has no stop
abbrev pub program_answer_of : Central → Result StintEnd Refusal → ProgramAnswer
program_answer_of given (Ok o) =
    record { verdict = (Ok tt); central = o.central; turns = o.turns; stop = stop_number o.stop }
program_answer_of given (Err r) = record { verdict = Err r; central = given; turns = 0; stop = 0 }

-- what the host gets back: the memory, the verdict's number, and the verdict with the record, the turns made and the stop
pub record ProgramAnswered : Type 0 where
  pub memory : List ℕ
  pub number : ℕ
  pub answer : ProgramAnswer

abbrev pub program_answer_to : List ℕ → ProgramAnswer → ProgramAnswered
program_answer_to m o = record { memory = m; number = verdict_number o.verdict; answer = o }

-- "After a refusal the state comes back equal, counts are 0."
abbrev pub program_answer_by : Verdict → List ℕ → Central → StintMemory → ProgramAnswered
program_answer_by (Ok _) m c o =
    program_answer_to o.memory
    (record { verdict = (Ok tt); central = o.end.central; turns = o.end.turns; stop = o.end.stop })
program_answer_by (Err r) m c o = program_answer_to m (record { verdict = Err r; central = c; turns = 0; stop = 0 })

-- one stint of the program of the package at this address
unfoldable pub program_answer : List ℕ → Central → ℕ → ℕ → ProgramAnswered
program_answer m c at n = program_answer_by (program_verdict m c at n) m c (stint_of m c at n)
