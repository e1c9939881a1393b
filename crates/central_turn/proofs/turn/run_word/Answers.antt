-- `central_turn::turn::run_word` meets its contract.
use mathlib.Core.Path.{◌∙◌, refl}
use native.Mathlib.Omega.{arith}
use Rattle.central_turn.specs.Laws.Shifted.{shifted_start, shifted-on, shifted-branch, shifted-stop, shifted_end}
use Rattle.central_turn.proofs.turn.run_word.Goals as goal

pub loop-remaining-init : goal.loop-remaining-init
loop-remaining-init c = record { same_reference = refl; same_bounds = refl; shifted = shifted_start _ _ _ _ c.requires.state_kept }

pub overflow_sub-v : goal.overflow_sub-v
overflow_sub-v c =
    let inv = c.loop-remaining.invariant in
    let is = rw inv.same_bounds at c.step.ensures.value in
    omega (arith, (shifted-on _ _ _ (omega (arith, c.args.field.now.lent.room)) c.requires.p_lt_fl _ _ _ _ inv.shifted c.loop-remaining-test.true _ is _ c.in-Next.is).0)

pub loop-remaining-smaller : goal.loop-remaining-smaller
loop-remaining-smaller c =
    let inv = c.loop-remaining.invariant in
    let is = rw inv.same_bounds at c.step.ensures.value in
    (shifted-on _ _ _ (omega (arith, c.args.field.now.lent.room)) c.requires.p_lt_fl _ _ _ _ inv.shifted c.loop-remaining-test.true _ is _ c.in-Next.is).0

pub loop-remaining-preserved : goal.loop-remaining-preserved
loop-remaining-preserved c =
    let inv = c.loop-remaining.invariant in
    let is = rw inv.same_bounds at c.step.ensures.value in
    record {
      same_reference = c.step.ensures.same_reference ∙ inv.same_reference;
      same_bounds = c.step.ensures.same_bounds ∙ inv.same_bounds;
      shifted =
          (shifted-on _ _ _ (omega (arith, c.args.field.now.lent.room)) c.requires.p_lt_fl _ _ _ _ inv.shifted c.loop-remaining-test.true _ is _ c.in-Next.is).1;
    }

pub returns-in-Branch-clause-value : goal.returns-in-Branch-clause-value
returns-in-Branch-clause-value c =
    let inv = c.loop-remaining.invariant in
    let is = rw inv.same_bounds at c.step.ensures.value in
    shifted-branch _ _ _ (omega (arith, c.args.field.now.lent.room)) c.requires.p_lt_fl _ _ _ _ inv.shifted c.loop-remaining-test.true _ is _ c.in-Branch.is

pub returns-in-Stop-clause-value : goal.returns-in-Stop-clause-value
returns-in-Stop-clause-value c =
    let inv = c.loop-remaining.invariant in
    let is = rw inv.same_bounds at c.step.ensures.value in
    shifted-stop _ _ _ (omega (arith, c.args.field.now.lent.room)) c.requires.p_lt_fl _ _ _ _ inv.shifted c.loop-remaining-test.true _ is _ c.in-Stop.is

pub returns-clause-value : goal.returns-clause-value
returns-clause-value c =
    shifted_end _ _ _ (omega (arith, c.args.field.now.lent.room)) c.requires.p_lt_fl _ _ _ _ c.loop-remaining.invariant.shifted
    (omega (arith, c.loop-remaining-test.false))
