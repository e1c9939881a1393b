-- `whole_processors::processors::processor_turn` meets its contract.
use Rattle.peripheral_machine.specs.Machine.{machine}
use Rattle.whole_processors.specs.Laws.Processors.{lent-words, lent-kept, processor-is}
use Rattle.whole_processors.proofs.processors.processor_turn.Goals as goal

pub turn-requires : goal.turn-requires
turn-requires c =
    let args = c.args in
    let pre = c.requires in
    record {
      machine_kept = rw (lent-words args.n) (lent-kept _ _ (machine _ _ _ _) pre.n_in_bounds.0 pre.machine_kept);
      n_bound = pre.n_in_bounds.1;
    }

pub returns : goal.returns
returns c =
    let args = c.args in
    let turn = c.turn in
    rw (lent-words args.n) (processor-is (machine _ _ _ _) _ (machine _ _ _ _) (rw (lent-words args.n) at turn.ensures))
