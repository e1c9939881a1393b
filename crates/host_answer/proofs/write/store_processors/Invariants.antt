use Rattle.host_record.specs.Layout.{processor_row}
use Rattle.base_lists.specs.Laws.Rows.{RowsStored}
use Rattle.host_answer.proofs.write.store_processors.Given as goal

abbrev pub invariant-loop-i : goal.invariant-loop-i
invariant-loop-i l = RowsStored 78 3 (processor_row l.processor-items) 10 l.initial.out l.out l.i
