-- `whole_calls::call::peripheral_turn` meets its contract.
use Rattle.std.proofs.Common.{rules, ◌≡◌, sym, ◌∙◌, Err}
use Rattle.whole_calls.specs.Call.{left, turn_given, peripheral_turn_answer}
use Rattle.whole_calls.specs.Laws.Call.{carried-out, machine-refused}
use Rattle.whole_calls.proofs.call.peripheral_turn.Goals as goal

pub turn-requires : goal.turn-requires
turn-requires c = sym c.turn_verdict.ensures ∙ c.in_ok-turn_verdict.was

pub returns : goal.returns
unfolding peripheral_turn_answer
returns c = carried-out turn_given _ _ _ (sym c.turn_verdict.ensures ∙ c.in_ok-turn_verdict.was) (left _ _ _) c.turn.ensures

pub returns-in_err-turn_verdict : goal.returns-in_err-turn_verdict
unfolding peripheral_turn_answer
returns-in_err-turn_verdict c =
    let e : c.from_residual.result ≡ Err c.in_err-turn_verdict.field-0.0 = search rules in
    rw e (machine-refused turn_given _ _ _ _ (sym c.turn_verdict.ensures ∙ c.in_err-turn_verdict.was))
