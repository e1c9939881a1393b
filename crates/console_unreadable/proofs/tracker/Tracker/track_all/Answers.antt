-- `console_unreadable::tracker::Tracker::track_all` meets its contract.
use native.Mathlib.Omega.{arith}
use borrow.Author.Rules.{rules}
use Rattle.console_unreadable.specs.Laws.Tracker.{tracking-next}
use Rattle.console_unreadable.proofs.tracker.Tracker.track_all.Goals as goal

pub loop-byte-preserved : goal.loop-byte-preserved
loop-byte-preserved c =
    record { tracking = tracking-next c.loop-byte.invariant.tracking (omega arith) c.track_byte-tracker.ensures.tracked; same = search rules }
