-- `shared_verdict::lists::turns_fit` meets its contract.
use mathlib.Core.Path.{◌∙◌}
use Rattle.central_record.specs.Laws.Record.{below_suc}
use Rattle.single_calls.specs.Turns.{most_turns}
use Rattle.shared_schedule.specs.Refusals.{turns_fit}
use Rattle.shared_verdict.proofs.lists.turns_fit.Goals as goal

pub returns : goal.returns
unfolding turns_fit
returns c = c.all_below.ensures ∙ below_suc most_turns c.args.ts.now
