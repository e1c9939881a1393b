-- `central_turn::turn::field_turns` meets its contract.
use mathlib.Core.Path.{◌∙◌, sym, refl}
use native.Mathlib.Omega.{arith}
use Rattle.central_turn.specs.Laws.Run.{run-going-start, run-going-on, run-going-stop, run-going-end}
use Rattle.central_turn.proofs.turn.field_turns.Goals as goal

pub loop-made-init : goal.loop-made-init
loop-made-init c =
    record { same_reference = refl; same_bounds = refl; going = run-going-start _ _ _ _ c.requires.p_bound c.requires.state_kept }

pub returns-then-is_some-clause-value : goal.returns-then-is_some-clause-value
returns-then-is_some-clause-value c =
    let inv = c.loop-made.invariant in
    let is = rw inv.same_bounds at c.turn-e.ensures.value in
    run-going-stop _ (omega (arith, c.args.field.now.lent.room)) _ _ _ _ _ _ inv.going c.loop-made-test.true _ is
    (sym c.is_some.ensures ∙ c.if-is_some.true)

pub loop-made-preserved : goal.loop-made-preserved
loop-made-preserved c =
    let inv = c.loop-made.invariant in
    let is = rw inv.same_bounds at c.turn-e.ensures.value in
    record {
      same_reference = c.turn-e.ensures.same_reference ∙ inv.same_reference;
      same_bounds = c.turn-e.ensures.same_bounds ∙ inv.same_bounds;
      going =
          run-going-on _ (omega (arith, c.args.field.now.lent.room)) _ _ _ _ _ _ inv.going c.loop-made-test.true _ is
          (sym c.is_some.ensures ∙ c.if-is_some.false);
    }

pub returns-clause-value : goal.returns-clause-value
returns-clause-value c =
    run-going-end _ (omega (arith, c.args.field.now.lent.room)) _ _ _ _ _ _ c.loop-made.invariant.going c.loop-made-test.false
