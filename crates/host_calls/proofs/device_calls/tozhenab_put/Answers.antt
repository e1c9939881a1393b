-- `host_calls::device_calls::tozhenab_put` meets its contract.
use Rattle.host_calls.specs.Laws.Device.{put-stores, put_is}
use Rattle.host_calls.proofs.device_calls.tozhenab_put.Goals as goal

pub keep-requires : goal.keep-requires
keep-requires c = put-stores _ _ c.lent-c.ensures _ _ c.put.ensures

pub returns : goal.returns
returns c = put_is _ _ c.lent-c.ensures _ _ c.keep.ensures _ c.put.ensures
