-- `central_turn::turn::run_word` meets its contract.
use Rattle.std.specs.Prelude.{◌≡◌}
use Rattle.central_apply.specs.State.{state}
use Rattle.central_turn.specs.Laws.Shifted.{Shifted}
use Rattle.central_turn.proofs.turn.run_word.Given as goal

abbrev pub invariant-loop-remaining : goal.invariant-loop-remaining
invariant-loop-remaining l = record {
  same_reference : l.field.words.ghost_name ≡ l.initial.field.words.ghost_name;
  same_bounds : l.field.bounds ≡ l.initial.field.bounds;
  shifted : Shifted l.initial.field.bounds l.p l.w (state l.initial.r l.initial.field.words.now) (state l.r l.field.words.now) l.v l.remaining;
}

abbrev pub decreases-loop-remaining : goal.decreases-loop-remaining
decreases-loop-remaining l = l.remaining
