use Rattle.base_lists.specs.Laws.Rows.{RowsStored}
use Rattle.host_answer.specs.Results.{stint_row}
use Rattle.host_answer.proofs.results.store_stints.Given as goal

abbrev pub invariant-loop-i : goal.invariant-loop-i
invariant-loop-i l = RowsStored 0 2 (stint_row l.turns l.stops) l.n l.initial.res l.res l.i
