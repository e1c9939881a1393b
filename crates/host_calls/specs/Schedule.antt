-- The call that runs a schedule, on a record of 29 numbers.
use Rattle.std.specs.Prelude.{cond, List, ℕ, ◌*◌, leb, length}
use Rattle.std.proofs.lemmas.List.Edits.{sets}
use Rattle.central_record.specs.Record.{host_verdict}
use Rattle.shared_calls.specs.Answer.{ScheduleAnswered, schedule_answer}
use Rattle.shared_schedule.specs.Schedule.{schedule_of}
use Rattle.host_answer.specs.Back.{short_number}
use Rattle.base_lists.specs.Rows.{rows}
use Rattle.host_record.specs.Lent.{central_lent}
use Rattle.host_answer.specs.Results.{stint_row}
use Rattle.host_calls.specs.Central.{ResultLeft, result_left}

-- those of n stints from the first entry on; after a refusal "counts are 0"
abbrev pub schedule_left : List ℕ → ℕ → ScheduleAnswered → ResultLeft
schedule_left out n a =
    result_left a.number a.memory (sets out 0 (rows n (stint_row a.answer.turns a.answer.stops)))

unfoldable pub schedule_run : List ℕ → List ℕ → List ℕ → List ℕ → List ℕ → List ℕ → ResultLeft
schedule_run m c jobs js ts out =
    cond (leb (2 * length js) (length out))
    (schedule_left out (length js) (schedule_answer (schedule_of m (central_lent c) jobs js ts)))
    (result_left (short_number (host_verdict m (central_lent c))) m out)
