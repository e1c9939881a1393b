-- The steps of a product in halves, over plain values, in the order of the code.
use mathlib.Core.Bool.{true, false}
use mathlib.Core.Path.{◌≡◌, sym, ap, ◌∙◌, subst}
use Prim.Native.Nat.{ℕ, ◌*◌, ◌^◌, ◌<◌}
use native.Mathlib.Omega.{arith}
use Rattle.floating_word.specs.Halves.{whole, halves_of}
use Rattle.floating_word.specs.Widths.{NumberFits}
use Rattle.floating_word.specs.Laws.Halves.{whole-halves}
use Rattle.floating_product.specs.Products.{moves_left, left_move, moved_product}
use Rattle.floating_product.specs.Halves.{with_places, cut_product, CutProduct}
use Rattle.floating_product.specs.Laws.Products.{left-move-lt, moved-product-lt}
use Rattle.floating_word.specs.declared.number.Number.{Number}
use Rattle.floating_word.specs.declared.halves.Halves.{Halves}
use Rattle.floating_product.specs.declared.halves.Product.{Product}

-- the steps of `moved_product`
module _ (a b : ℕ) (p : Halves) (e : p ≡ halves_of (a * b)) where
  pub stays : (r : Product) → r ≡ with_places p 0 → moves_left a b ≡ false → r ≡ cut_product a b
  unfolding left_move
  stays r f t =
      let n : a * b ≡ a * b * 2 ^ 0 = omega arith in
      rw t (f ∙ ap (λ (h : Halves). with_places h 0) (e ∙ ap halves_of n))

  pub moves : (q : Halves) (r : Product) → q ≡ halves_of (whole p * 2) → r ≡ with_places q 1 → moves_left a b ≡ true → r ≡ cut_product a b
  unfolding left_move
  moves q r f g t =
      let n : whole p ≡ a * b = ap whole e ∙ whole-halves (a * b) in
      rw t (g ∙ ap (λ (h : Halves). with_places h 1) (f ∙ ap (λ (k : ℕ). halves_of (k * 2)) n))

-- a product as moved has two halves of 48 bits
pub product-cut : (x y : Number) (p : Product) → NumberFits x → NumberFits y → p ≡ cut_product x.size y.size → CutProduct p
product-cut x y p hx hy e =
    let l : moved_product x.size y.size < 2 ^ 96 = moved-product-lt x.size y.size hx.size-lt hy.size-lt in
    subst CutProduct (sym e) (record { high_lt = omega arith; low-lt = omega arith; places-lt = left-move-lt x.size y.size })
