-- `single_calls::record_calls::central_turn` meets its contract.
use Rattle.std.proofs.Common.{sym, ap, ◌∙◌, Ok}
use Rattle.exchange_jump.specs.Laws.Verdicts.{host-accepted}
use Rattle.single_calls.specs.RecordCalls.{central_answered, turn_answer}
use Rattle.single_calls.specs.Turns.{Turned}
use Rattle.single_calls.specs.Laws.Turns.{one-turn}
use Rattle.single_calls.proofs.record_calls.central_turn.Goals as goal

pub turns_if_running-requires : goal.turns_if_running-requires
turns_if_running-requires c = host-accepted _ _ (sym c.host_verdict.ensures ∙ c.in_ok-host_verdict.was)

pub returns : goal.returns
unfolding turn_answer
returns c =
    rw (← c.host_verdict.ensures, c.in_ok-host_verdict.was)
    (ap (λ (o : Turned). central_answered (Ok tt) o.machine) (c.turns_if_running.ensures ∙ one-turn _ _))
