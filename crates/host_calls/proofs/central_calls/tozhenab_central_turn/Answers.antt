-- `host_calls::central_calls::tozhenab_central_turn` meets its contract.
use Rattle.host_calls.specs.Laws.Central.{central-turn-stores, central-turn-is}
use Rattle.host_calls.proofs.central_calls.tozhenab_central_turn.Goals as goal

pub keep-requires : goal.keep-requires
keep-requires c = central-turn-stores _ _ _ _ c.lent-c.ensures _ c.central_turn.ensures

pub returns : goal.returns
returns c = central-turn-is _ _ _ _ c.lent-c.ensures _ _ _ c.keep.ensures c.central_turn.ensures
