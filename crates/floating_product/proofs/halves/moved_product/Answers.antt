-- `floating_product::halves::moved_product` meets its contract.
use mathlib.Core.Path.{refl, sym, ◌∙◌}
use Rattle.floating_product.proofs.Steps.{stays, moves}
use Rattle.floating_product.proofs.halves.moved_product.Goals as goal

pub returns-then-moves_left : goal.returns-then-moves_left
returns-then-moves_left c =
    moves c.args.a c.args.b _ c.exact_product-p.ensures _ _ c.doubled.ensures refl (sym c.moves_left.ensures ∙ c.if-moves_left.true)

pub returns-else-moves_left : goal.returns-else-moves_left
returns-else-moves_left c =
    stays c.args.a c.args.b _ c.exact_product-p.ensures _ refl (sym c.moves_left.ensures ∙ c.if-moves_left.false)
