-- `single_calls::program::program_verdict` meets its contract.
use Rattle.std.proofs.Common.{sym, ◌∙◌}
use Rattle.single_calls.specs.Laws.Turns.{turns-accepted}
use Rattle.single_calls.proofs.program.program_verdict.Goals as goal

pub owner_verdict-requires : goal.owner_verdict-requires
owner_verdict-requires c = (turns-accepted _ _ _ (sym c.turns_verdict.ensures ∙ c.in_ok-turns_verdict.was)).0.at_most
