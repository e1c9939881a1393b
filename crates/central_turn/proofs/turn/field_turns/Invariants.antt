-- `central_turn::turn::field_turns` meets its contract.
use Rattle.std.specs.Prelude.{◌≡◌}
use Rattle.central_apply.specs.State.{state}
use Rattle.central_turn.specs.Laws.Run.{RunGoing}
use Rattle.central_turn.proofs.turn.field_turns.Given as goal

abbrev pub invariant-loop-made : goal.invariant-loop-made
invariant-loop-made l = record {
  same_reference : l.field.words.ghost_name ≡ l.initial.field.words.ghost_name;
  same_bounds : l.field.bounds ≡ l.initial.field.bounds;
  going : RunGoing l.initial.field.bounds l.n l.p (state l.initial.r l.initial.field.words.now) (state l.r l.field.words.now) l.at l.made;
}
