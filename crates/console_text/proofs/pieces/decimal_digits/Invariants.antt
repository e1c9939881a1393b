-- `console_text::pieces::decimal_digits` meets its contract.
use lib.ListN.{length}
use Rattle.console_text.specs.Laws.Decimal.{DecimalLeft}
use Rattle.console_text.proofs.pieces.decimal_digits.Given as goal

abbrev pub invariant-loop-at : goal.invariant-loop-at
invariant-loop-at l = DecimalLeft (length l.initial.buffer) l.v l.buffer l.at l.rest
