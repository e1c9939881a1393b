-- `console_unreadable::tracker::end_line` meets its contract.
use mathlib.Core.Path.{sym, ◌∙◌}
use native.Mathlib.Omega.{arith}
use lib.Seq.{length-take-le}
use Rattle.console_unreadable.specs.Laws.Tracker.{line-found, line-passed}
use Rattle.console_unreadable.proofs.tracker.end_line.Goals as goal

pub slice_bounds-line_of-end : goal.slice_bounds-line_of-end
slice_bounds-line_of-end c = sym (length-take-le _ _ (omega (arith, c.requires.0.begun, c.requires.0.long)))

pub returns-then-is_unreadable-clause-tracked : goal.returns-then-is_unreadable-clause-tracked
returns-then-is_unreadable-clause-tracked c = line-found _ _ c.feed_all-after.ensures.read c.line_of-said.ensures c.rule_of-rule.ensures (sym c.is_unreadable.ensures ∙ c.if-is_unreadable.true)

pub returns-clause-tracked : goal.returns-clause-tracked
returns-clause-tracked c = line-passed _ _ c.feed_all-after.ensures.read (sym c.is_unreadable.ensures ∙ c.if-is_unreadable.false)
