-- `host_calls::central_calls::tozhenab_central_turns` meets its contract.
use Rattle.host_calls.specs.Laws.Central.{turns-store, turns-made, turns-refused, turns-short}
use Rattle.host_calls.proofs.central_calls.tozhenab_central_turns.Goals as goal

pub returns-then-res-lt1 : goal.returns-then-res-lt1
returns-then-res-lt1 c = turns-short _ _ _ _ _ _ _ c.lent-c.ensures c.if-res-lt1.true c.host_verdict.ensures c.short_number.ensures

pub store-requires : goal.store-requires
store-requires c = turns-store _ _ _ _ c.lent-c.ensures _ _ c.central_turns.ensures _ c.in-Ok.is

pub returns-in-Ok : goal.returns-in-Ok
returns-in-Ok c = turns-made _ _ _ _ c.lent-c.ensures _ _ c.central_turns.ensures _ c.if-res-lt1.false _ _ c.in-Ok.is c.store.ensures

pub returns-in-Err : goal.returns-in-Err
returns-in-Err c = turns-refused _ _ _ _ c.lent-c.ensures _ _ c.central_turns.ensures _ c.if-res-lt1.false _ _ c.in-Err.is c.number.ensures
