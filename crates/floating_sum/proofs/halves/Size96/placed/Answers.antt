-- `floating_sum::halves::Size96::placed` meets its contract.
use Prim.Native.Nat.{◌-◌}
use native.Mathlib.Omega.{arith}
use lib.Pow.{shr_le}
use Rattle.floating_word.specs.Laws.Halves.{halves_are}
use Rattle.floating_sum.specs.Laws.Placed.{placed-far, placed-out}
use Rattle.floating_sum.proofs.Machine.{near-halves}
use Rattle.floating_sum.proofs.halves.Size96.placed.Goals as goal
use Rattle.floating_sum.proofs.halves.Size96.placed.Goals.{then-places-lt48, else-places-lt48+then-places-lt-BITS, else-places-lt48+else-places-lt-BITS}

pub returns : goal.returns
returns c =
    let size = c.args.size in
    let places = c.args.places in
    elim c.if-places-lt48.branch [
      | then-places-lt48 w ↦ rw (w.halves-is, w.low.ensures) (near-halves size places w.if-places-lt48.true)
      | else-places-lt48+then-places-lt-BITS w ↦
          rw w.halves-is (halves_are _ (omega (arith, shr_le size (places - 48))) (omega (arith, placed-far size places w.if-places-lt48.false)))
      | else-places-lt48+else-places-lt-BITS w ↦
          rw w.halves-is (halves_are _ (omega arith) (omega (arith, placed-out size places c.requires w.if-places-lt-BITS.false)))
    ]
