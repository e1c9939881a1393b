-- Products: widths, operands exchanged, finite operands and zero coefficients.
use Rattle.std.specs.Prelude.{Bool, not, ◌&&◌, ◌||◌, ◌≡◌, ℕ, ◌*◌, ◌^◌, ◌<◌, ltb, eqb}
use Rattle.std.proofs.Math.Bool.{true, false, cond, and_comm, or_comm}
use Rattle.std.proofs.Math.Path.{refl, ap}
use Rattle.std.proofs.Common.{ap₂, ◌∙◌, mul_comm, add_comm, arith}
use borrow.Author.Tests.{ltb-true}
use Rattle.std.proofs.Math.Dec.{lit<}
use Rattle.base_logic.specs.Laws.Choice.{of-cond}
use Rattle.base_logic.specs.Laws.Tests.{both}
use Rattle.word_arithmetic.specs.Bits.{negative}
use Rattle.floating_word.specs.Special.{is_infinite, is_indefinite, either_infinite, either_indefinite, unlike_signs, signed}
use Rattle.floating_word.specs.Number.{number_in}
use Rattle.floating_word.specs.Finite.{FiniteWord}
use Rattle.floating_word.specs.Laws.Special.{signed-word-lt, infinity-lt}
use Rattle.floating_word.specs.Laws.Number.{number_fits, word_lt}
use Rattle.floating_product.specs.Products.{is_normal, moves_left, left_move, moved_product, product_size, exponent_sum, exponent_fall, product_half, is_zero_operand, either_zero, product_word, is_complemented, floating_product}
use Rattle.floating_product.specs.Laws.Columns.{product-bits}
use Rattle.floating_word.specs.declared.number.Number.{Number}

-- widths
module _ (a b : ℕ) where
  pub left-move-lt : left_move a b < 2
  unfolding left_move
  left-move-lt = of-cond (λ (n : ℕ). n < 2) (moves_left a b) (λ t. lit< tt) (λ t. lit< tt)

  pub moved-product-lt : a < 2 ^ 48 → b < 2 ^ 48 → moved_product a b < 2 ^ 96
  unfolding left_move
  moved-product-lt ha hb =
      of-cond (λ (n : ℕ). a * b * 2 ^ n < 2 ^ 96) (moves_left a b)
      (λ t. let l : a * b < 2 ^ 95 = ltb-true (a * b) (2 ^ 95) (both (is_normal a && is_normal b) (ltb (a * b) (2 ^ 95)) t).1 in omega arith)
      (λ t. omega (arith, product-bits 48 ha hb))

pub product-size-lt : (lower : Bool) (n : ℕ) → n < 2 ^ 96 → product_size lower n < 2 ^ 48
product-size-lt true n h = omega arith
product-size-lt false n h = omega arith

abbrev Word : ℕ → Type 0
Word r = r < 2 ^ 60

module _ (lower : Bool) (x y : ℕ) (hx : x < 2 ^ 60) (hy : y < 2 ^ 60) where
  pub half-size-lt : product_size lower (moved_product (number_in x).size (number_in y).size) < 2 ^ 48
  half-size-lt =
      product-size-lt lower _ (moved-product-lt (number_in x).size (number_in y).size (number_fits x hx).size-lt (number_fits y hy).size-lt)

  pub product-word-lt : product_word lower x y < 2 ^ 60
  unfolding product_word product_half
  product-word-lt =
      of-cond Word (either_indefinite x y || either_infinite x y && either_zero x y) (λ t. lit< tt)
      (λ t. of-cond Word (either_infinite x y) (λ t. infinity-lt false)
      (λ t. of-cond Word (either_zero x y) (λ t. lit< tt)
      (λ t. word_lt false (exponent_sum lower (number_in x) (number_in y)) (exponent_fall (number_in x) (number_in y)) _ half-size-lt)))

  -- a result has 60 bits
  pub floating-product-lt : floating_product lower x y < 2 ^ 60
  unfolding floating_product
  floating-product-lt = signed-word-lt (is_complemented (unlike_signs x y) (product_word lower x y)) _ product-word-lt

-- operands exchanged
unlike-exchanged : (m n : Bool) → cond m (not n) n ≡ cond n (not m) m
unlike-exchanged true true = refl
unlike-exchanged true false = refl
unlike-exchanged false true = refl
unlike-exchanged false false = refl

move-exchanged : (a b : ℕ) → left_move a b ≡ left_move b a
unfolding left_move
move-exchanged a b = ap₂ (λ (t : Bool) (p : ℕ). cond (t && ltb p (2 ^ 95)) 1 0) (and_comm (is_normal a) (is_normal b)) (mul_comm a b)

moved-exchanged : (a b : ℕ) → moved_product a b ≡ moved_product b a
moved-exchanged a b = ap₂ (λ (p n : ℕ). p * 2 ^ n) (mul_comm a b) (move-exchanged a b)

half-exchanged : (lower : Bool) (x y : Number) → product_half lower x y ≡ product_half lower y x
unfolding product_half
half-exchanged lower x y =
    rw (moved-exchanged x.size y.size, move-exchanged x.size y.size, add_comm x.biased y.biased)

word-exchanged : (lower : Bool) (x y : ℕ) → product_word lower x y ≡ product_word lower y x
unfolding product_word
word-exchanged lower x y =
    rw (
      or_comm (is_indefinite x) (is_indefinite y),
      or_comm (is_infinite x) (is_infinite y),
      or_comm (is_zero_operand x) (is_zero_operand y),
      half-exchanged lower (number_in x) (number_in y),
    )

-- 40 and 42 of exchanged operands are alike, for every two words
pub products-exchanged : (lower : Bool) (x y : ℕ) → floating_product lower x y ≡ floating_product lower y x
unfolding floating_product
products-exchanged lower x y =
    ap₂ (λ (d : Bool) (w : ℕ). signed (is_complemented d w) w) (unlike-exchanged (negative 60 x) (negative 60 y)) (word-exchanged lower x y)

-- finite operands: all zeros where one has a zero coefficient, else the half of the product
module _ (lower : Bool) (x y : ℕ) (hx : FiniteWord x) (hy : FiniteWord y) where
  finite-word : product_word lower x y ≡ cond (either_zero x y) 0 (product_half lower (number_in x) (number_in y))
  unfolding product_word
  finite-word = rw (hx.not-indefinite, hy.not-indefinite, hx.not_infinite, hy.not_infinite)

  -- "whatever the exponents"
  pub product_zeros : either_zero x y ≡ true → floating_product lower x y ≡ 0
  unfolding floating_product signed
  product_zeros e =
      let z : product_word lower x y ≡ 0 = finite-word ∙ ap (λ (t : Bool). cond t 0 (product_half lower (number_in x) (number_in y))) e in
      ap (λ (w : ℕ). signed (is_complemented (unlike_signs x y) w) w) z ∙ by-signs (unlike_signs x y)
    where
      by-signs : (d : Bool) → signed (is_complemented d 0) 0 ≡ 0
      by-signs true = refl
      by-signs false = refl

  pub product-finite : either_zero x y ≡ false → product_word lower x y ≡ product_half lower (number_in x) (number_in y)
  product-finite e = finite-word ∙ ap (λ (t : Bool). cond t 0 (product_half lower (number_in x) (number_in y))) e

-- a finite operand is zero by its size
pub zero-by-size : (x : ℕ) → FiniteWord x → is_zero_operand x ≡ eqb (number_in x).size 0
zero-by-size x h = rw (h.not_infinite, h.not-indefinite)
