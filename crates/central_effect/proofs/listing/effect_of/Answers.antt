-- `central_effect::listing::effect_of` meets its contract: the code that is left is 77.
use mathlib.Core.Path.{◌∙◌, sym}
use native.Mathlib.Omega.{arith}
use Rattle.central_effect.specs.Laws.Effects.{effect-at-top}
use Rattle.central_effect.proofs.listing.effect_of.Goals as goal

pub returns-in_default : goal.returns-in_default
returns-in_default c = c.set_x-in_default.ensures ∙ sym (effect-at-top _ _ _ _ 0o77 (omega arith))
