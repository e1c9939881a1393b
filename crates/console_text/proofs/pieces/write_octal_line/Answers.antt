-- `console_text::pieces::write_octal_line` meets its contract.
use Rattle.word_octal.specs.Laws.Writes.{writes_three}
use Rattle.console_text.proofs.pieces.write_octal_line.Goals as goal

pub returns : goal.returns
returns c = writes_three c.text.ensures c.octal.ensures c.text-2.ensures
