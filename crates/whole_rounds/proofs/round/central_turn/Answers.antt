-- `whole_rounds::round::central_turn` meets its contract.
use mathlib.Core.Path.{◌∙◌, sym}
use native.Mathlib.Omega.{arith}
use Rattle.central_apply.specs.State.{state}
use Rattle.central_turn.specs.Turn.{ran}
use Rattle.central_turn.specs.Laws.Place.{place-back}
use Rattle.single_stint.specs.Laws.Field.{field-inside, field_room, field-kept, p-short}
use Rattle.whole_rounds.specs.Laws.Central.{central-stopped, central-running}
use lib.ListN.{get_or}
use Rattle.whole_rounds.proofs.round.central_turn.Goals as goal

pub returns-then-central_stop-ne0 : goal.returns-then-central_stop-ne0
returns-then-central_stop-ne0 c = central-stopped _ _ _ (λ e. c.if-central_stop-ne0.true (c.central_stop.ensures ∙ e))

pub overflow_add-end : goal.overflow_add-end
overflow_add-end c = rw c.central_bounds-b.ensures (omega (arith, field_room _ _ c.requires.host_accepted))

pub offset_bounds-c-start : goal.offset_bounds-c-start
offset_bounds-c-start c = rw c.central_bounds-b.ensures (omega (arith, field_room _ _ c.requires.host_accepted))

pub slice_bounds-turns-end : goal.slice_bounds-turns-end
slice_bounds-turns-end c = rw c.central_bounds-b.ensures (omega (arith, field-inside _ _ c.requires.host_accepted))

pub turns-o-requires-clause-state_kept : goal.turns-o-requires-clause-state_kept
turns-o-requires-clause-state_kept c =
    let s = c.args.s.now.places in
    let pre = c.requires in
    rw (c.central_bounds-b.ensures, place-back (get_or s 79 0) (get_or s 80 0)) (field-kept _ _ pre.host_accepted pre.x_len)

pub turns-o-requires-clause-fl_bound : goal.turns-o-requires-clause-fl_bound
turns-o-requires-clause-fl_bound c = rw c.central_bounds-b.ensures (field_room _ _ c.requires.host_accepted)

pub turns-o-requires-clause-p_bound : goal.turns-o-requires-clause-p_bound
turns-o-requires-clause-p_bound c = rw c.central_p.ensures (p-short _ _ c.requires.host_accepted)

pub returns : goal.returns
returns c =
    let s = c.args.s.now.places in
    let b = c.central_bounds-b in
    let back = place-back (get_or s 79 0) (get_or s 80 0) in
    rw (b.ensures, back)
    (central-running _ c.args.x.now _ (sym c.central_stop.ensures ∙ c.if-central_stop-ne0.false) (ran (state _ _) _)
    (rw (b.ensures, c.central_p.ensures, back) at c.turns-o.ensures)
    _
    (rw (b.ensures, c.stop_number.ensures) at c.set_controls.ensures))
