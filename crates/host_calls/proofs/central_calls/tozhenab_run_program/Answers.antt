-- `host_calls::central_calls::tozhenab_run_program` meets its contract.
use Rattle.host_calls.specs.Laws.Central.{program-made, program-refused, program-short}
use Rattle.host_calls.proofs.central_calls.tozhenab_run_program.Goals as goal

pub returns-then-res-lt2 : goal.returns-then-res-lt2
returns-then-res-lt2 c = program-short _ _ _ _ _ _ _ _ c.lent-c.ensures c.if-res-lt2.true c.host_verdict.ensures c.short_number.ensures

pub returns-in-Ok : goal.returns-in-Ok
returns-in-Ok c =
    program-made _ _ _ _ c.lent-c.ensures _ c.if-res-lt2.false _ _ _ c.run_program.ensures _ _ c.in-Ok.is c.stop_number.ensures

pub returns-in-Err : goal.returns-in-Err
returns-in-Err c =
    program-refused _ _ _ _ c.lent-c.ensures _ c.if-res-lt2.false _ _ _ c.run_program.ensures _ _ c.in-Err.is c.number.ensures
