-- `console_reader::reader::Reader::feed_all` meets its contract.
use mathlib.Core.Path.{sym}
use native.Mathlib.Omega.{arith}
use borrow.Author.Rules.{rules}
use lib.Seq.{length-take-le}
use Rattle.console_reader.specs.Laws.LineBytes.{filled-fits}
use Rattle.console_reader.specs.Laws.Feeding.{feeding-filled, feeding-line}
use Rattle.console_reader.proofs.reader.Reader.feed_all.Goals as goal

pub slice_bounds-line-end : goal.slice_bounds-line-end
slice_bounds-line-end c =
    let ready = c.loop-at.invariant.fed.ready in
    let fits = filled-fits c.fill-filled.ensures ready.begun ready.long in
    omega (arith, fits.begun, fits.long)

pub slice_bounds-line_of-end : goal.slice_bounds-line_of-end
slice_bounds-line_of-end c =
    let ready = c.loop-at.invariant.fed.ready in
    let fits = filled-fits c.fill-filled.ensures ready.begun ready.long in
    sym (length-take-le _ _ (omega (arith, fits.begun, fits.long)))

pub loop-at-preserved-then-at-bytes : goal.loop-at-preserved-then-at-bytes
loop-at-preserved-then-at-bytes c =
    record {
      fed = feeding-line c.loop-at.invariant.fed c.fill-filled.ensures c.if-at-bytes.true c.line_of-said.ensures c.apply-progress.ensures.read;
      same = search rules;
    }

pub loop-at-preserved : goal.loop-at-preserved
loop-at-preserved c = record { fed = feeding-filled c.loop-at.invariant.fed c.fill-filled.ensures; same = c.loop-at.invariant.same }
