-- `peripheral_turn::listing::effect_from` meets its contract: the last row, whose entry the search does not pick by itself.
use mathlib.Core.Path.{◌∙◌, sym}
use native.Mathlib.Omega.{arith}
use Rattle.peripheral_turn.specs.Laws.Effects.{effect-by-code}
use Rattle.peripheral_turn.proofs.listing.effect_from.Goals as goal

pub returns-in-56 : goal.returns-in-56
returns-in-56 c = c.seventh_row.ensures ∙ sym (effect-by-code _ _ _ _ _ 0o70 c.in-56.is)

pub returns-in-57 : goal.returns-in-57
returns-in-57 c = c.seventh_row-in-57.ensures ∙ sym (effect-by-code _ _ _ _ _ 0o71 c.in-57.is)

pub returns-in-58 : goal.returns-in-58
returns-in-58 c = c.seventh_row-in-58.ensures ∙ sym (effect-by-code _ _ _ _ _ 0o72 c.in-58.is)

pub returns-in-59 : goal.returns-in-59
returns-in-59 c = c.seventh_row-in-59.ensures ∙ sym (effect-by-code _ _ _ _ _ 0o73 c.in-59.is)

pub returns-in-60 : goal.returns-in-60
returns-in-60 c = c.seventh_row-in-60.ensures ∙ sym (effect-by-code _ _ _ _ _ 0o74 c.in-60.is)

pub returns-in-61 : goal.returns-in-61
returns-in-61 c = c.seventh_row-in-61.ensures ∙ sym (effect-by-code _ _ _ _ _ 0o75 c.in-61.is)

pub returns-in-62 : goal.returns-in-62
returns-in-62 c = c.seventh_row-in-62.ensures ∙ sym (effect-by-code _ _ _ _ _ 0o76 c.in-62.is)

pub returns-in_default : goal.returns-in_default
returns-in_default c = c.seventh_row-in_default.ensures ∙ sym (effect-by-code _ _ _ _ _ 0o77 (omega arith))
