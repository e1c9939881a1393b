-- `central_turn::turn::turn` meets its contract.
use mathlib.Core.Path.{◌∙◌, sym, subst}
use Rattle.std.specs.Prelude.{Option}
use Rattle.central_field.specs.Address.{Within}
use Rattle.central_turn.specs.Turn.{turn_of}
use Rattle.central_field.specs.Laws.Address.{place-within, inside-below}
use Rattle.central_field.specs.declared.address.Absolute.{Absolute}
use Rattle.central_turn.proofs.turn.turn.Goals as goal

pub read-w-requires : goal.read-w-requires
read-w-requires c =
    subst (λ (p : Option Absolute). Within c.args.field.now.bounds p) (sym c.convert.ensures ∙ c.in-Some.is) (place-within _ _)

pub run_word-requires-clause-p_lt_fl : goal.run_word-requires-clause-p_lt_fl
run_word-requires-clause-p_lt_fl c = inside-below _ _ _ (sym c.convert.ensures ∙ c.in-Some.is)

pub returns-clause-value : goal.returns-clause-value
unfolding turn_of
returns-clause-value c = rw (← c.convert.ensures, c.in-Some.is, ← c.read-w.ensures) c.run_word.ensures.value

pub returns-in_default-clause-value : goal.returns-in_default-clause-value
unfolding turn_of
returns-in_default-clause-value c = rw (← c.convert.ensures, c.in_default.is)
