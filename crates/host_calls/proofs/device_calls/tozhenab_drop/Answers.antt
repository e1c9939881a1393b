-- `host_calls::device_calls::tozhenab_drop` meets its contract.
use Rattle.host_calls.specs.Laws.Device.{drop-stores, drop-is}
use Rattle.host_calls.proofs.device_calls.tozhenab_drop.Goals as goal

pub keep-requires : goal.keep-requires
keep-requires c = drop-stores _ _ c.lent-c.ensures _ c.drop.ensures

pub returns : goal.returns
returns c = drop-is _ _ c.lent-c.ensures _ _ c.keep.ensures c.drop.ensures
