-- `host_calls::device_calls::tozhenab_take` meets its contract.
use Rattle.host_calls.specs.Laws.Device.{take-stores, take-is, taken-short}
use Rattle.host_calls.proofs.device_calls.tozhenab_take.Goals as goal

pub returns-then-res-lt2 : goal.returns-then-res-lt2
returns-then-res-lt2 c = taken-short _ _ c.lent-c.ensures _ _ _ c.if-res-lt2.true c.channel_verdict.ensures c.short_number.ensures

pub keep_taken-requires : goal.keep_taken-requires
keep_taken-requires c = take-stores _ _ c.lent-c.ensures _ _ c.take.ensures c.if-res-lt2.false

pub returns : goal.returns
returns c = take-is _ _ c.lent-c.ensures _ _ _ c.if-res-lt2.false c.take.ensures c.keep_taken.ensures
