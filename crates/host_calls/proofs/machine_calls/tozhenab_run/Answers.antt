-- `host_calls::machine_calls::tozhenab_run` meets its contract.
use Rattle.host_calls.specs.Laws.Machine.{run-stores, run-made, run-refused, run_short}
use Rattle.host_calls.proofs.machine_calls.tozhenab_run.Goals as goal

pub returns-then-res-lt1 : goal.returns-then-res-lt1
returns-then-res-lt1 c = run_short _ _ _ _ _ _ _ _ c.lent-r.ensures c.if-res-lt1.true c.machine_verdict.ensures c.short_number.ensures

pub store-requires : goal.store-requires
store-requires c = run-stores _ _ _ _ _ _ c.lent-r.ensures _ _ c.run.ensures _ c.in-Ok.is

pub returns-in-Ok : goal.returns-in-Ok
returns-in-Ok c = run-made _ _ _ _ _ _ c.lent-r.ensures _ _ c.if-res-lt1.false _ c.run.ensures _ _ c.in-Ok.is c.store.ensures

pub returns-in-Err : goal.returns-in-Err
returns-in-Err c = run-refused _ _ _ _ _ _ c.lent-r.ensures _ _ c.if-res-lt1.false _ c.run.ensures _ _ c.in-Err.is c.number.ensures
