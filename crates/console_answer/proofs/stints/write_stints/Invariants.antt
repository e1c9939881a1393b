-- `console_answer::stints::write_stints` meets its contract.
use lib.ListN.{length}
use Rattle.word_octal.specs.Laws.Writes.{WritesOn}
use Rattle.console_answer.specs.Text.{stints_text}
use Rattle.console_answer.specs.Laws.Room.{BufferRoom}
use Rattle.console_answer.specs.Laws.Stints.{stints_from}
use Rattle.console_answer.proofs.stints.write_stints.Given as goal

abbrev pub invariant-loop-index : goal.invariant-loop-index
invariant-loop-index l =
    BufferRoom 93 (length l.jobs) l.index l.writer
    × WritesOn l.initial.writer (stints_text 0 l.jobs l.turns l.stops) l.writer (stints_from l.index l.jobs l.turns l.stops)
