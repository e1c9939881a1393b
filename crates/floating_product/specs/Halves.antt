-- A product in halves: how the code has what `Products` says of whole numbers.
use Rattle.std.specs.Prelude.{ℕ, ◌^◌, ◌<◌}
use Rattle.floating_word.specs.Halves.{halves_of}
use Rattle.floating_word.specs.declared.halves.Halves.{Halves}
use Rattle.floating_product.specs.Products.{left_move, moved_product}
use Rattle.floating_product.specs.declared.halves.Product.{Product}

abbrev pub with_places : Halves → ℕ → Product
with_places p places = record { size = p; places = places }

-- the product of two sizes as moved, and the places
abbrev pub cut_product : ℕ → ℕ → Product
cut_product a b = with_places (halves_of (moved_product a b)) (left_move a b)

pub record CutProduct (p : Product) : Type 0 where
  pub high_lt : p.size.high < 2 ^ 48
  pub low-lt : p.size.low < 2 ^ 48
  pub places-lt : p.places < 2
