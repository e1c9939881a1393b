-- `whole_calls::call::make_rounds` meets its contract.
use Rattle.peripheral_machine.specs.Machine.{machine}
use Rattle.whole_calls.specs.Laws.Call.{run-ready, run-carried-out}
use borrow.Author.Rules.{rules}
use Rattle.whole_calls.proofs.call.make_rounds.Goals as goal

pub run-rounds-requires : goal.run-rounds-requires
run-rounds-requires c =
    let args = c.args in
    let pre = c.requires in
    let Numbers-of = c.numbers_of-s in
    let ready = run-ready _ _ args.r _ Numbers-of.ensures _ (pre) (search rules) in
    record { machine_kept = ready.0; k_bound = ready.1 }

pub returns : goal.returns
returns c =
    let args = c.args in
    let Numbers-of = c.numbers_of-s in
    let run = c.run-rounds in
    let record_of = c.record_of in
    run-carried-out args.c.now args.m.now args.r _ Numbers-of.ensures _ (machine _ _ _ _) _ run.ensures _ record_of.ensures
