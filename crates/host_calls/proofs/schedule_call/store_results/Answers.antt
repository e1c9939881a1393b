-- `host_calls::schedule_call::store_results` meets its contract.
use mathlib.Core.Path.{refl, sym, ap, ◌∙◌}
use Rattle.std.specs.Prelude.{None}
use Rattle.std.proofs.Math.ListN.{get_or-map}
use Rattle.base_lists.specs.Laws.Rows.{no-row-stored, one-row-stored}
use Rattle.central_turn.specs.Turn.{stop_number}
use Rattle.shared_calls.specs.declared.stints.StintResult.{StintResult}
use Rattle.host_answer.specs.Laws.Results.{pair-stored}
use Rattle.host_calls.proofs.schedule_call.store_results.Goals as goal

pub loop-i-init : goal.loop-i-init
loop-i-init c = no-row-stored

pub loop-i-preserved : goal.loop-i-preserved
loop-i-preserved c =
    let loop = c.loop-i in
    let none : StintResult = record { turns = 0; stop = None } in
    let turns = λ (r : StintResult). r.turns in
    let stop = λ (r : StintResult). stop_number r.stop in
    one-row-stored (λ j. refl) loop.invariant c.loop-i-test.true
    (pair-stored loop.res loop.i
    (ap turns c.result_of-made.ensures ∙ sym (get_or-map turns c.args.results.now loop.i none))
    (c.stop_number.ensures ∙ ap stop c.result_of-made.ensures ∙ sym (get_or-map stop c.args.results.now loop.i none)))
