-- `console_answer::words::write_words` meets its contract.
use lib.ListN.{length}
use Rattle.word_octal.specs.Laws.Writes.{WritesOn}
use Rattle.console_answer.specs.Text.{words_text}
use Rattle.console_answer.specs.Laws.Room.{BufferRoom}
use Rattle.console_answer.specs.Laws.Words.{words_from}
use Rattle.console_answer.proofs.words.write_words.Given as goal

abbrev pub invariant-loop-address : goal.invariant-loop-address
invariant-loop-address l =
    BufferRoom 44 (length l.memory) l.address l.writer × WritesOn l.initial.writer (words_text 0 l.memory) l.writer (words_from l.address l.memory)
