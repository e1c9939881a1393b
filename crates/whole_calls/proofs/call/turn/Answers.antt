-- `whole_calls::call::turn` meets its contract.
use Rattle.peripheral_machine.specs.Machine.{machine}
use Rattle.whole_calls.specs.Laws.Call.{turn-ready, turn-carried-out}
use borrow.Author.Rules.{rules}
use Rattle.whole_calls.proofs.call.turn.Goals as goal

pub processors_turn-requires : goal.processors_turn-requires
processors_turn-requires c =
    let args = c.args in
    let pre = c.requires in
    let Numbers-of = c.numbers_of-s in
    let ready = turn-ready _ _ args.r _ Numbers-of.ensures _ (pre) (search rules) in
    record { machine_kept = ready.0; count_in_bounds = ready.1 }

pub returns : goal.returns
returns c =
    let args = c.args in
    let Numbers-of = c.numbers_of-s in
    let processors-turn = c.processors_turn in
    let record_of = c.record_of in
    turn-carried-out _ _ args.r _ Numbers-of.ensures _ (machine _ _ _ _) processors-turn.ensures _ record_of.ensures
