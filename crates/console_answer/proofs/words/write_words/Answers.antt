-- `console_answer::words::write_words` meets its contract.
use Rattle.word_octal.specs.Laws.Writes.{writes_next, writes_end}
use Rattle.console_answer.specs.Laws.Lengths.{length-word}
use Rattle.console_answer.specs.Laws.Room.{room_next}
use Rattle.console_answer.specs.Laws.Words.{words-next, words-end}
use Rattle.console_answer.proofs.words.write_words.Goals as goal

pub loop-address-preserved : goal.loop-address-preserved
loop-address-preserved c =
    let inv = c.loop-address.invariant in
    let more = c.loop-address-test.true in
    let word = c.write_word.ensures in
    (room_next inv.0 more word (length-word _ _), writes_next inv.1 (words-next _ _ more) word)

pub returns : goal.returns
returns c = writes_end c.loop-address.invariant.1 (words-end _ _ c.loop-address-test.false)
