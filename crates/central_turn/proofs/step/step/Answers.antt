-- `central_turn::step::step` meets its contract.
use native.Mathlib.Omega.{arith}
use lib.Pow.{shr_lt}
use Rattle.central_decode.specs.Laws.Shifted.{top-fits}
use Rattle.central_effect.specs.Laws.Effects.{effect-sound}
use Rattle.central_turn.specs.Laws.Remaining.{entry-at-top, ran-unfit, ran-cut, ran-whole}
use Rattle.central_turn.proofs.step.step.Goals as goal

pub entry-entry-requires : goal.entry-entry-requires
entry-entry-requires c = shr_lt 9 55 (omega arith)

pub returns-then-entry-ge-UNFIT-clause-value : goal.returns-then-entry-ge-UNFIT-clause-value
returns-then-entry-ge-UNFIT-clause-value c =
    let pre = c.requires in
    let entry_of = c.entry-entry in
    let is = entry-at-top _ _ entry_of.ensures in
    ran-unfit _ _ _ _ _ _ pre.remaining_bound pre.remaining_value is c.if-entry-ge-UNFIT.true

pub returns-then-remaining-entry-clause-value : goal.returns-then-remaining-entry-clause-value
returns-then-remaining-entry-clause-value c =
    let pre = c.requires in
    let entry_of = c.entry-entry in
    let is = entry-at-top _ _ entry_of.ensures in
    ran-cut _ _ _ _ _ _ pre.remaining_bound pre.remaining_value is c.if-entry-ge-UNFIT.false c.if-remaining-entry.true

pub apply-requires : goal.apply-requires
apply-requires c =
    let pre = c.requires in
    let args = c.args in
    let effect_of = c.effect_of-e in
    rw effect_of.ensures (effect-sound _ _ pre.wide (top-fits args.v (omega arith)) _ _ pre.p_bound)

pub returns-clause-value : goal.returns-clause-value
returns-clause-value c =
    let pre = c.requires in
    let entry_of = c.entry-entry in
    let if1 = c.if-remaining-entry in
    let effect_of = c.effect_of-e in
    let apply = c.apply in
    let is = entry-at-top _ _ entry_of.ensures in
    ran-whole _ _ _ _ _ _ pre.remaining_bound pre.remaining_value is _ _ if1.false effect_of.ensures apply.ensures.value
