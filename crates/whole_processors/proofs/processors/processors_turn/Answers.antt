-- `whole_processors::processors::processors_turn` meets its contract.
use native.Mathlib.Omega.{arith}
use Rattle.peripheral_machine.specs.Machine.{machine}
use Rattle.whole_processors.specs.Laws.Processors.{own-size, processors-going-start, processors-going-on, processors-going-end}
use Rattle.whole_processors.proofs.processors.processors_turn.Goals as goal

pub loop-n-init : goal.loop-n-init
loop-n-init c = processors-going-start _ _ _ (machine _ _ _ _) c.requires.machine_kept

pub processor_turn-requires : goal.processor_turn-requires
processor_turn-requires c =
    let pre = c.requires in
    let loop = c.loop-n in
    record {
      machine_kept = own-size _ (machine _ _ _ _) loop.invariant.kept;
      n_in_bounds = (omega (arith, c.loop-n-test.true, loop.invariant.kept.size, pre.count_in_bounds.0), omega (arith, c.loop-n-test.true, pre.count_in_bounds.1));
    }

pub loop-n-preserved : goal.loop-n-preserved
loop-n-preserved c =
    let pre = c.requires in
    processors-going-on _ _ _ (machine _ _ _ _) (machine _ _ _ _) _ c.loop-n.invariant pre.count_in_bounds.0 pre.count_in_bounds.1 c.loop-n-test.true
    (machine _ _ _ _)
    c.processor_turn.ensures

pub shape_of-m : goal.shape_of-m
shape_of-m c = c.loop-n.invariant.kept.size

pub shape_of-c : goal.shape_of-c
shape_of-c c = c.loop-n.invariant.long

pub returns : goal.returns
returns c = processors-going-end _ _ _ (machine _ _ _ _) (machine _ _ _ _) _ c.loop-n.invariant c.loop-n-test.false
