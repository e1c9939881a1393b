use Rattle.base_lists.specs.Laws.Rows.{RowsStored}
use Rattle.shared_calls.specs.Answer.{turns_in, stops_in}
use Rattle.host_answer.specs.Results.{stint_row}
use Rattle.host_calls.proofs.schedule_call.store_results.Given as goal

abbrev pub invariant-loop-i : goal.invariant-loop-i
invariant-loop-i l = RowsStored 0 2 (stint_row (turns_in l.results) (stops_in l.results)) l.n l.initial.res l.res l.i
