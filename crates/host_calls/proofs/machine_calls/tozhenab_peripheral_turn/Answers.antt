-- `host_calls::machine_calls::tozhenab_peripheral_turn` meets its contract.
use Rattle.host_calls.specs.Laws.Machine.{peripheral-turn-stores, peripheral-turn-is}
use Rattle.host_calls.proofs.machine_calls.tozhenab_peripheral_turn.Goals as goal

pub keep-requires : goal.keep-requires
keep-requires c = peripheral-turn-stores _ _ _ _ _ _ c.lent-r.ensures _ _ c.peripheral_turn.ensures

pub returns : goal.returns
returns c = peripheral-turn-is _ _ _ _ _ _ c.lent-r.ensures _ _ _ _ c.peripheral_turn.ensures c.keep.ensures
