-- `console_reason::line::write_unreadable` meets its contract.
use native.Mathlib.Omega.{arith}
use Rattle.console_answer.specs.Laws.Lengths.{length-refused}
use Rattle.console_text.specs.Names.{line_is}
use Rattle.console_reason.specs.Laws.Text.{length-number-line, writes-unreadable}
use Rattle.console_reason.proofs.line.write_unreadable.Goals as goal

pub write_decimal_line-requires : goal.write_decimal_line-requires
write_decimal_line-requires c = omega (arith, length-refused c.number.result)

pub write_rule-requires : goal.write_rule-requires
write_rule-requires c = omega (arith, length-refused c.number.result, length-number-line line_is c.args.unreadable.number)

pub returns : goal.returns
returns c = writes-unreadable _ _ c.number.ensures c.write_refused.ensures c.write_decimal_line.ensures c.write_rule.ensures
