-- `whole_rounds::round::all_stopped` meets its contract.
use Rattle.std.proofs.Common.{rules, tests, refl, sym, ◌∙◌, arith, eq-eqb}
use Rattle.std.proofs.lemmas.Iterator.{YieldsList-from_range}
use Rattle.std.proofs.lemmas.Iterator.Search.{all_from_yields_List}
use Rattle.base_lists.specs.Laws.Tested.{all-range}
use Rattle.whole_rounds.specs.Rounds.{is_stopped}
use Rattle.whole_rounds.proofs.Rounds.{central-runs, others-decide}
use Rattle.whole_rounds.proofs.round.all_stopped.Goals as goal

pub returns-then-central_stop-ne0 : goal.returns-then-central_stop-ne0
returns-then-central_stop-ne0 c =
    let test = is_stopped c.args.s.now.places in
    let k = c.args.k in
    all_from_yields_List test _ _ _ c.all.ensures.ran (YieldsList-from_range 0 k k refl (omega arith)) (λ x b q k. search (rules, tests))
    ∙ all-range test k
    ∙ others-decide k c.args.s.now.places (λ e. c.if-central_stop-ne0.true (c.central_stop.ensures ∙ e))

pub returns-else-central_stop-ne0 : goal.returns-else-central_stop-ne0
returns-else-central_stop-ne0 c =
    rw (eq-eqb _ 0 c.if-central_stop-ne0.false) (central-runs _ _ (sym c.central_stop.ensures ∙ c.if-central_stop-ne0.false))
