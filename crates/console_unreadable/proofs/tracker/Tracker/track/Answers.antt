-- `console_unreadable::tracker::Tracker::track` meets its contract.
use mathlib.Core.Path.{◌∙◌, sym}
use borrow.Author.Rules.{rules}
use Rattle.console_unreadable.specs.Laws.Tracker.{accepted-tracker}
use Rattle.console_unreadable.proofs.tracker.Tracker.track.Goals as goal

pub track_all-requires : goal.track_all-requires
track_all-requires c = accepted-tracker _ _ _ _ (sym c.verdict.ensures ∙ c.in_ok-verdict.was) (search rules)
