-- `single_calls::turns::turns_if_running` meets its contract.
use mathlib.Core.Path.{◌∙◌, ap}
use native.Mathlib.Omega.{arith}
use borrow.Author.Tests.{ne_eqb}
use borrow.Author.Rules.{rules}
use Rattle.single_calls.specs.Laws.Turns.{stopped_none}
use Rattle.single_calls.specs.Laws.FieldRun.{ran_turns, ran-is}
use Rattle.single_calls.proofs.turns.turns_if_running.Goals as goal

pub returns-then-c-gt0 : goal.returns-then-c-gt0
returns-then-c-gt0 c = stopped_none _ _ (ne_eqb c.args.c.stop 0 (λ z. omega (arith, c.if-c-gt0.true)))

pub returns : goal.returns
returns c =
    let pre = c.requires in
    ap ran_turns c.run.ensures.ran
    ∙ ran-is _ _ _ pre (search rules) (omega (arith, c.if-c-gt0.false))
