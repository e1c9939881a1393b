-- `console_reader::line_bytes::fill` meets its contract.
use Prim.Native.Nat.{◌≤◌, max}
use lib.ListN.{length}
use Rattle.console_reader.proofs.Filling.{FillingOn}
use Rattle.console_reader.proofs.line_bytes.fill.Given as goal

abbrev pub invariant-loop-at : goal.invariant-loop-at
invariant-loop-at l = record {
  filling : FillingOn l.bytes l.from l.initial.line l.begun l.at l.line l.n;
  within : l.at ≤ max l.from (length l.bytes);
}
