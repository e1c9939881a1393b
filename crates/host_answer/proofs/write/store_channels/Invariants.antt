use Rattle.host_record.specs.Layout.{channel_row}
use Rattle.base_lists.specs.Laws.Rows.{RowsStored}
use Rattle.host_answer.proofs.write.store_channels.Given as goal

abbrev pub invariant-loop-i : goal.invariant-loop-i
invariant-loop-i l = RowsStored 30 4 (channel_row l.channel-items) 12 l.initial.out l.out l.i
