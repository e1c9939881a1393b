-- A product of normalized operands is normalized.
use Rattle.std.specs.Prelude.{true, ◌≡◌, ℕ, ◌*◌, ◌/◌, ◌^◌, ◌≤◌}
use Rattle.std.proofs.Math.Bool.{false}
use Rattle.std.proofs.Common.{◌∙◌}
use Rattle.std.proofs.Math.Nat.{mul-le-mul}
use native.Mathlib.Omega.{arith}
use borrow.Author.Tests.{ne_eqb, ltb-false, leb-true, le-leb}
use Rattle.base_logic.specs.Laws.Choice.{of-cond}
use Rattle.floating_word.specs.Special.{unlike_signs}
use Rattle.floating_word.specs.Number.{number_in}
use Rattle.floating_word.specs.Finite.{FiniteWord}
use Rattle.floating_product.specs.Products.{is_normal, moves_left, left_move, moved_product, exponent_sum, exponent_fall, product_half, is_zero_operand, either_zero, floating_product}
use Rattle.floating_product.specs.Rebuilt.{ExponentWithin}
use Rattle.floating_product.specs.Laws.Products.{half-size-lt, product-finite, zero-by-size}
use Rattle.floating_word.specs.declared.number.Number.{Number}
use Rattle.floating_product.specs.Laws.Complemented.{result-number}

-- a normalized operand is not zero
not-zero : (x : ℕ) → FiniteWord x → 2 ^ 47 ≤ (number_in x).size → is_zero_operand x ≡ false
not-zero x h l = zero-by-size x h ∙ ne_eqb (number_in x).size 0 (λ e. omega (arith, e))

-- a product of normalized sizes that does not move has 96 bits
not-moved : (a b : ℕ) → 2 ^ 47 ≤ a → 2 ^ 47 ≤ b → moves_left a b ≡ false → 2 ^ 95 ≤ a * b
not-moved a b ha hb e =
    ltb-false (a * b) (2 ^ 95) (rw (le-leb (2 ^ 47) a ha, le-leb (2 ^ 47) b hb) at e)

-- a pair of finite words
module _ (x y : ℕ) (hx : FiniteWord x) (hy : FiniteWord y) where
  abbrev xn : Number
  xn = number_in x

  abbrev yn : Number
  yn = number_in y

  abbrev upper_size : ℕ
  upper_size = moved_product xn.size yn.size / 2 ^ 48

  -- of two normalized sizes the product, as moved, has its top bit
  normal-size : 2 ^ 47 ≤ xn.size → 2 ^ 47 ≤ yn.size → 2 ^ 47 ≤ upper_size
  unfolding left_move
  normal-size a b =
      let p : 2 ^ 94 ≤ xn.size * yn.size = mul-le-mul a b in
      of-cond (λ (n : ℕ). 2 ^ 47 ≤ xn.size * yn.size * 2 ^ n / 2 ^ 48) (moves_left xn.size yn.size) (λ t. omega arith)
      (λ t. top (not-moved xn.size yn.size a b t))
    where
      top : 2 ^ 95 ≤ xn.size * yn.size → 2 ^ 47 ≤ xn.size * yn.size * 2 ^ 0 / 2 ^ 48
      top l = omega arith

  -- a product of normalized operands, within the limits, is normalized
  pub product-normal : is_normal xn.size ≡ true → is_normal yn.size ≡ true → ExponentWithin false xn yn
      → is_normal (number_in (floating_product false x y)).size ≡ true
  unfolding floating_product product_half
  product-normal a b w =
      let ha : 2 ^ 47 ≤ xn.size = leb-true (2 ^ 47) xn.size a in
      let hb : 2 ^ 47 ≤ yn.size = leb-true (2 ^ 47) yn.size b in
      let s : 2 ^ 47 ≤ upper_size = normal-size ha hb in
      let z : either_zero x y ≡ false = rw (not-zero x hx ha, not-zero y hy hb) in
      let n = result-number (unlike_signs x y) (exponent_sum false xn yn) (exponent_fall xn yn) (upper_size) w.least w.most
      (half-size-lt false x y hx.width hy.width) (omega arith) in
      rw (product-finite false x y hx hy z) (rw n (le-leb (2 ^ 47) (upper_size) s))
