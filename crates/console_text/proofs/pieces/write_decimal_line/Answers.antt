-- `console_text::pieces::write_decimal_line` meets its contract.
use Rattle.word_octal.specs.Laws.Writes.{writes_three}
use Rattle.console_text.proofs.pieces.write_decimal_line.Goals as goal

pub returns : goal.returns
returns g c = writes_three c.text.ensures c.write_decimal.ensures c.text-2.ensures
