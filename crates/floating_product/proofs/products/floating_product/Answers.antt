-- `floating_product::products::floating_product` meets its contract.
use mathlib.Core.Path.{sym, subst}
use Prim.Native.Nat.{ℕ, ◌^◌, ◌<◌}
use Rattle.floating_product.specs.Laws.Products.{product-word-lt}
use Rattle.floating_product.proofs.products.floating_product.Goals as goal

pub signed-requires : goal.signed-requires
signed-requires c = subst (λ (w : ℕ). w < 2 ^ 60) (sym c.product_word-w.ensures) (product-word-lt _ _ _ c.requires.0 c.requires.1)
