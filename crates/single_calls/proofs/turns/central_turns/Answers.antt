-- `single_calls::turns::central_turns` meets its contract.
use Rattle.std.proofs.Common.{sym, ◌∙◌}
use Rattle.single_calls.specs.Laws.Turns.{turns-accepted}
use Rattle.single_calls.proofs.turns.central_turns.Goals as goal

pub turns_if_running-requires : goal.turns_if_running-requires
turns_if_running-requires c = (turns-accepted _ _ _ (sym c.turns_verdict.ensures ∙ c.in_ok-turns_verdict.was)).0
