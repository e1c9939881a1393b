-- `console_reason::fault::write_pair` meets its contract.
use Rattle.word_octal.specs.Laws.Writes.{writes_then}
use Rattle.console_reason.proofs.fault.write_pair.Goals as goal

pub returns : goal.returns
returns c = writes_then c.write_octal_line.ensures c.write_octal_line-2.ensures
