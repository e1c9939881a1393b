-- The upper and the lower half of a product make the product.
use Rattle.std.specs.Prelude.{Bool, true, false, ◌≡◌, refl, ℕ, ◌+◌, ◌-◌, ◌*◌, ◌^◌, ℤ, pos, ◌+ℤ◌, ◌*ℤ◌}
use Rattle.std.proofs.Common.{⊎_elim, sym, ap, ap₂, ◌∙◌, arith, eqb-true}
use Rattle.base_logic.specs.Laws.Tests.{one_of}
use Rattle.floating_word.specs.Special.{unlike_signs}
use Rattle.floating_word.specs.Number.{number_in}
use Rattle.floating_word.specs.Finite.{FiniteWord}
use Rattle.floating_product.specs.Products.{left_move, moved_product, product_size, exponent_sum, exponent_fall, product_half, is_zero_operand, either_zero, floating_product}
use Rattle.floating_product.specs.Rebuilt.{ExponentWithin, whole_with, scaled_value, Rebuilt}
use Rattle.floating_product.specs.Laws.Powers.{halves-rebuild}
use Rattle.floating_product.specs.Laws.Products.{half-size-lt, product_zeros, product-finite, zero-by-size}
use Rattle.floating_word.specs.declared.number.Number.{Number}
use Rattle.floating_product.specs.Laws.Wholes.{whole-zero, whole-add, whole-scale, whole-product}
use Rattle.floating_product.specs.Laws.Complemented.{zeros-scaled, zeros-finite, half-held}

-- a finite operand of zero coefficient has the size 0
zero-size : (x : ℕ) → FiniteWord x → is_zero_operand x ≡ true → (number_in x).size ≡ 0
zero-size x h e = eqb-true (number_in x).size 0 (sym (zero-by-size x h) ∙ e)

-- the product of two values
values-product : (x y : ℕ)
    → whole_with (unlike_signs x y) ((number_in x).size * 2 ^ (number_in x).biased * ((number_in y).size * 2 ^ (number_in y).biased)) ≡ scaled_value x *ℤ scaled_value y
unfolding number_in
values-product x y = sym (whole-product (number_in x).minus (number_in y).minus ((number_in x).size * 2 ^ (number_in x).biased) ((number_in y).size * 2 ^ (number_in y).biased))

-- a pair of finite words
module _ (x y : ℕ) (hx : FiniteWord x) (hy : FiniteWord y) where
  abbrev xn : Number
  xn = number_in x

  abbrev yn : Number
  yn = number_in y

  abbrev half_size : Bool → ℕ
  half_size lower = product_size lower (moved_product xn.size yn.size)

  abbrev half_exponent : Bool → ℕ
  half_exponent lower = exponent_sum lower xn yn - exponent_fall xn yn

  abbrev half_value : Bool → ℕ
  half_value lower = half_size lower * 2 ^ half_exponent lower

  abbrev HalfHeld : Bool → ℕ → Type 0
  HalfHeld lower w = FiniteWord w × (scaled_value w ≡ whole_with (unlike_signs x y) (half_value lower))

  product-held : (lower : Bool) → ExponentWithin lower xn yn → either_zero x y ≡ false → HalfHeld lower (floating_product lower x y)
  unfolding floating_product product_half
  product-held lower w e =
      rw (product-finite lower x y hx hy e)
      (half-held (unlike_signs x y) (exponent_sum lower xn yn) (exponent_fall xn yn) (half_size lower) w.least w.most
      (half-size-lt lower x y hx.width hy.width))

  -- neither has a zero coefficient
  rebuilt-finite : either_zero x y ≡ false → ExponentWithin false xn yn → ExponentWithin true xn yn
      → Rebuilt x y (floating_product false x y) (floating_product true x y)
  rebuilt-finite e wu wl =
      let u = product-held false wu e in
      let l = product-held true wl e in
      record {
        upper-finite = u.0;
        lower-finite = l.0;
        value =
            ap₂ (λ (a b : ℤ). (a +ℤ b) *ℤ pos (2 ^ 1023)) u.1 l.1
            ∙ ap (λ (a : ℤ). a *ℤ pos (2 ^ 1023)) (whole-add (unlike_signs x y) (half_value false) (half_value true))
            ∙ whole-scale (unlike_signs x y) (half_value false + half_value true) (2 ^ 1023)
            ∙ ap (whole_with (unlike_signs x y)) (halves-rebuild xn.size yn.size xn.biased yn.biased (left_move xn.size yn.size) 1023 wl.least)
            ∙ values-product x y;
      }

  -- all zeros rebuild a product of zero
  zeros-product : either_zero x y ≡ true → xn.size * 2 ^ xn.biased * (yn.size * 2 ^ yn.biased) ≡ 0
  zeros-product e =
      ⊎_elim
      (λ z. ap (λ (n : ℕ). n * 2 ^ xn.biased * (yn.size * 2 ^ yn.biased)) (zero-size x hx z) ∙ omega arith)
      (λ z. ap (λ (n : ℕ). xn.size * 2 ^ xn.biased * (n * 2 ^ yn.biased)) (zero-size y hy z) ∙ omega arith)
      (one_of (is_zero_operand x) (is_zero_operand y) e)

  rebuilt-zeros : either_zero x y ≡ true → Rebuilt x y (floating_product false x y) (floating_product true x y)
  rebuilt-zeros e =
      rw (product_zeros false x y hx hy e, product_zeros true x y hx hy e)
      (record {
        upper-finite = zeros-finite;
        lower-finite = zeros-finite;
        value =
            ap₂ (λ (a b : ℤ). (a +ℤ b) *ℤ pos (2 ^ 1023)) zeros-scaled zeros-scaled
            ∙ sym (whole-zero (unlike_signs x y))
            ∙ ap (whole_with (unlike_signs x y)) (sym (zeros-product e))
            ∙ values-product x y;
      })

  -- the request's last sentence; a pair with a zero coefficient needs no limits, as both words are all zeros
  pub products-rebuild : (either_zero x y ≡ false → (ExponentWithin false xn yn) × (ExponentWithin true xn yn))
      → Rebuilt x y (floating_product false x y) (floating_product true x y)
  products-rebuild w = by-test (either_zero x y) refl
    where
      by-test : (t : Bool) → either_zero x y ≡ t → Rebuilt x y (floating_product false x y) (floating_product true x y)
      by-test true e = rebuilt-zeros e
      by-test false e = rebuilt-finite e (w e).0 (w e).1
