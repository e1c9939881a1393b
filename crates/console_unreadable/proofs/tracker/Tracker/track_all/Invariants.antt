-- `console_unreadable::tracker::Tracker::track_all` meets its contract.
use Rattle.console_grammar.specs.Lent.{lists_in, SameLent}
use Rattle.console_unreadable.specs.Laws.Tracker.{TrackingOn}
use Rattle.console_unreadable.specs.Tracker.{tracker_state}
use Rattle.console_unreadable.proofs.tracker.Tracker.track_all.Given as goal

abbrev pub invariant-loop-byte : goal.invariant-loop-byte
invariant-loop-byte l = record {
  tracking : TrackingOn l.bytes (tracker_state l.initial.tracker l.initial.lent.memory.now (lists_in l.initial.lent))
      l.byte-index l.tracker l.lent.memory.now (lists_in l.lent);
  same : SameLent l.initial.lent l.lent;
}
