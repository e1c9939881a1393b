-- `shared_calls::stints::run_stints` meets its contract.
use native.Mathlib.Omega.{arith}
use Rattle.shared_calls.specs.Laws.Stints.{stints-going-start, stints-going-end, stint-allowed, results-going-on}
use Rattle.shared_calls.proofs.stints.run_stints.Goals as goal

pub loop-k-init : goal.loop-k-init
loop-k-init c = stints-going-start _ _ _ _ _ c.requires

pub package_of-at-requires : goal.package_of-at-requires
package_of-at-requires c = c.loop-k.invariant.may.listed _ (omega (arith, c.loop-k-test.true))

pub bounds-stint_turns-k : goal.bounds-stint_turns-k
bounds-stint_turns-k c =
    omega (arith, c.loop-k.invariant.may.even, c.loop-k-test.true)

pub stint-o-requires : goal.stint-o-requires
stint-o-requires c =
    stint-allowed _ _ _ _ _ _ _ _ _ _ c.loop-k.invariant _ (omega (arith, c.loop-k-test.true)) _ c.package_of-at.ensures

pub bounds-end-k : goal.bounds-end-k
bounds-end-k c =
    omega (arith, c.loop-k.invariant.may.most, c.loop-k-test.true)

pub loop-k-preserved : goal.loop-k-preserved
loop-k-preserved c =
    results-going-on _ _ _ _ _ _ _ _ _ c.loop-k.invariant c.loop-k-test.true _ c.package_of-at.ensures _ _ c.stint-o.ensures

pub shape_of-m : goal.shape_of-m
shape_of-m c = c.loop-k.invariant.same_size

pub returns : goal.returns
returns c = stints-going-end _ _ _ _ _ _ _ _ _ _ c.loop-k.invariant c.loop-k-test.false
