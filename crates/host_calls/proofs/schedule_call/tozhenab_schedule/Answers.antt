-- `host_calls::schedule_call::tozhenab_schedule` meets its contract.
use native.Mathlib.Omega.{arith}
use Rattle.std.proofs.Common.{rules, refl}
use Rattle.host_calls.specs.Laws.Schedule.{schedule-made, schedule-refused, schedule-short}
use Rattle.host_calls.proofs.schedule_call.tozhenab_schedule.Goals as goal

pub returns-then-res-stints : goal.returns-then-res-stints
returns-then-res-stints c =
    schedule-short _ _ _ _ _ _ _ c.lent-c.ensures _ _ (omega arith) c.host_verdict.ensures c.short_number.ensures

pub returns-in-Ok : goal.returns-in-Ok
returns-in-Ok c =
    schedule-made _ _ _ _ _ _ _ c.lent-c.ensures 0 _ _ _ _ _ (omega (arith, c.if-res-stints.false)) c.schedule.ensures c.store_results.ensures
    _ c.in-Ok.is refl refl

pub returns-in-Err : goal.returns-in-Err
returns-in-Err c =
    schedule-refused _ _ _ _ _ _ _ c.lent-c.ensures _ _ _ _ _ _ (omega (arith, c.if-res-stints.false)) c.schedule.ensures
    c.store_none.ensures _ c.in-Err.is c.number.ensures refl refl
