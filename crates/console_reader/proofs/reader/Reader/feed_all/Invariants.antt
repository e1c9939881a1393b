-- `console_reader::reader::Reader::feed_all` meets its contract.
use Prim.Native.Nat.{◌-◌}
use lib.ListN.{length}
use Rattle.console_grammar.specs.Lent.{lists_in, SameLent}
use Rattle.console_reader.specs.Reader.{with_line}
use Rattle.console_reader.specs.Laws.Feeding.{FeedingOn}
use Rattle.console_reader.proofs.reader.Reader.feed_all.Given as goal

abbrev pub invariant-loop-at : goal.invariant-loop-at
invariant-loop-at l = record {
  fed : FeedingOn l.bytes (with_line l.initial.progress l.initial.line l.initial.begun) l.initial.lent.memory.now (lists_in l.initial.lent)
      l.at (with_line l.progress l.line l.begun) l.lent.memory.now (lists_in l.lent);
  same : SameLent l.initial.lent l.lent;
}

abbrev pub decreases-loop-at : goal.decreases-loop-at
decreases-loop-at l =
    length l.bytes - l.at
