-- `whole_rounds::round::round` meets its contract.
use Rattle.peripheral_machine.specs.Machine.{machine, central_side}
use Rattle.whole_rounds.proofs.Rounds.{all-ready, after_kept, clock-kept, round_is}
use Rattle.whole_rounds.proofs.round.round.Goals as goal

pub processors_turn-requires : goal.processors_turn-requires
processors_turn-requires c =
    let pre = c.requires in
    let ready = all-ready _ pre.k_bound (machine _ _ _ _) pre.machine_kept in
    record { machine_kept = ready.0; count_in_bounds = ready.1 }

pub central_turn-requires : goal.central_turn-requires
central_turn-requires c =
    let pre = c.requires in
    let processors-turn = c.processors_turn in
    let o = after_kept _ pre.k_bound (machine _ _ _ _) pre.machine_kept (machine _ _ _ _) processors-turn.ensures in
    record { host_accepted = o.host; x_len = o.count }

pub tick-requires : goal.tick-requires
tick-requires c =
    let pre = c.requires in
    let processors-turn = c.processors_turn in
    let central-turn = c.central_turn in
    clock-kept _ pre.k_bound (machine _ _ _ _) pre.machine_kept (machine _ _ _ _) processors-turn.ensures (central_side _ _ _) central-turn.ensures

pub returns : goal.returns
returns c =
    let pre = c.requires in
    let processors-turn = c.processors_turn in
    let central-turn = c.central_turn in
    let tick = c.tick in
    round_is _ pre.k_bound (machine _ _ _ _) pre.machine_kept (machine _ _ _ _) processors-turn.ensures (central_side _ _ _) central-turn.ensures _ tick.ensures
