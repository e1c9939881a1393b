-- `console_answer::words::write_word` meets its contract.
use Rattle.console_answer.specs.Laws.Words.{writes_zero}
use Rattle.console_answer.proofs.words.write_word.Goals as goal

pub returns-else-word-ne0 : goal.returns-else-word-ne0
returns-else-word-ne0 c = writes_zero _ _ _ c.if-word-ne0.false
