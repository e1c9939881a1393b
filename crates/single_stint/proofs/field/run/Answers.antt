-- `single_stint::field::run` meets its contract.
use native.Mathlib.Omega.{arith}
use Rattle.single_stint.specs.Laws.Field.{field-inside, p-short, field_room, field-kept}
use Rattle.central_turn.specs.Laws.Place.{place-back}
use Rattle.single_stint.specs.Field.{ran_on}
use borrow.Author.Rules.{rules}
use Rattle.single_stint.proofs.field.run.Goals as goal

pub overflow_add-end : goal.overflow_add-end
overflow_add-end c = omega (arith, field_room _ _ c.requires)

pub offset_bounds-m-start : goal.offset_bounds-m-start
offset_bounds-m-start c = omega (arith, field_room _ _ c.requires)

pub slice_bounds-turns-end : goal.slice_bounds-turns-end
slice_bounds-turns-end c = omega (arith, field-inside _ _ c.requires)

pub turns-o-requires : goal.turns-o-requires
turns-o-requires c =
    let args = c.args in
    let pre = c.requires in
    record {
      state_kept = rw (place-back args.c.ra args.c.fl) (field-kept _ _ pre (search rules));
      fl_bound = field_room _ _ pre;
      p_bound = p-short _ _ pre;
    }

pub returns-clause-ran : goal.returns-clause-ran
unfolding ran_on
returns-clause-ran c =
    let args = c.args in
    let turns = c.turns-o in
    let made = rw (place-back args.c.ra args.c.fl) at turns.ensures in
    rw (place-back args.c.ra args.c.fl, ← made, c.stop_number.ensures)
