-- `console_unreadable::tracker::follow_byte` meets its contract.
use native.Mathlib.Omega.{arith}
use Rattle.console_unreadable.specs.Laws.Tracker.{followed-byte}
use Rattle.console_unreadable.proofs.tracker.follow_byte.Goals as goal

pub returns-clause-tracked : goal.returns-clause-tracked
returns-clause-tracked c = followed-byte _ _ _ (λ e. omega arith) c.feed_all.ensures.read
