-- `floating_product::products::product_half` meets its contract.
use native.Mathlib.Omega.{arith}
use Rattle.floating_product.proofs.Steps.{product-cut}
use Rattle.floating_product.proofs.products.product_half.Goals as goal

pub overflow_add-fall : goal.overflow_add-fall
overflow_add-fall c =
    omega (arith, (product-cut _ _ _ c.requires.number_fits c.requires.number_fits_2 c.moved_product-p.ensures).places-lt)

pub word_of-requires-else-lower : goal.word_of-requires-else-lower
word_of-requires-else-lower c =
    (product-cut _ _ _ c.requires.number_fits c.requires.number_fits_2 c.moved_product-p.ensures).high_lt
