-- `console_answer::words::write_nonzero` meets its contract.
use Rattle.console_answer.specs.Laws.Words.{writes-nonzero}
use Rattle.console_answer.proofs.words.write_nonzero.Goals as goal

pub returns : goal.returns
returns c = writes-nonzero _ _ c.requires.0 c.octal.ensures c.text.ensures c.digits.ensures c.text-2.ensures
