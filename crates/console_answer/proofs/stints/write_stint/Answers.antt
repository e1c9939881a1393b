-- `console_answer::stints::write_stint` meets its contract.
use Rattle.word_octal.specs.Laws.Writes.{writes_then, writes_three}
use Rattle.console_answer.specs.Text.{stint_text}
use Rattle.console_answer.proofs.stints.write_stint.Goals as goal

pub returns : goal.returns
unfolding stint_text
returns c =
    writes_then c.write_octal_line.ensures
    (writes_three c.write_octal_line-2.ensures c.write_octal_line-3.ensures c.write_decimal_line.ensures)
