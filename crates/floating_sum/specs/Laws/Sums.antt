-- Sums of signed sizes, by their signs; widths; operands exchanged and complemented.
use Rattle.std.specs.Prelude.{Bool, true, not, cond, ◌&&◌, ◌||◌, ◌≡◌, refl, ℕ, zero, suc, ◌+◌, ◌-◌, ◌/◌, ◌%◌, ◌^◌, ◌≤◌, ◌<◌, max, ltb, eqb, ℤ, pos, neg_ℤ, ◌+ℤ◌, ◌-ℤ◌}
use Rattle.std.proofs.Math.Bool.{false, and_comm, or_comm}
use Rattle.std.proofs.Common.{⊎_elim, sym, ap₂, ◌∙◌, subst, sub-add_cancel, le_of_lt, arith, ltb-true, eq-eqb, lit<}
use Rattle.std.proofs.Math.Path.{ap}
use Rattle.std.proofs.Math.IntN.{+ℤ_comm, neg_ℤ-+ℤ, neg_ℤ-neg_ℤ, +ℤ-neg_ℤ_cancel}
use Rattle.base_logic.specs.Laws.Choice.{of-cond, le-or-lt}
use Rattle.word_arithmetic.specs.Bits.{negative}
use Rattle.word_arithmetic.specs.Sums.{complement}
use Rattle.word_arithmetic.specs.Laws.Sums.{complement-lt}
use Rattle.floating_word.specs.Special.{is_infinite, is_indefinite, either_indefinite, infinity_word, indefinite_word}
use Rattle.floating_word.specs.Number.{number_in}
use Rattle.floating_word.specs.Widths.{NumberFits}
use Rattle.floating_word.specs.Laws.Special.{infinity-lt}
use Rattle.floating_word.specs.Laws.Number.{number_fits, word_lt}
use Rattle.floating_sum.specs.Sums.{Coefficient, coefficient, placed, aligned, whole_of, minus_zero, from_whole, added_of, moved_of, finite_sum, half_of, unlike_infinities, sum_word, addend, floating_sum}
use Rattle.floating_sum.specs.Laws.Placed.{placed-lt}
use Rattle.floating_word.specs.declared.number.Number.{Number}

-- whole numbers back as a sign and a size
from-plus : (n : ℕ) → from_whole false (pos n) ≡ coefficient false n
from-plus zero = refl
from-plus (suc n) = refl

from-minus : (zeros : Bool) (n : ℕ) → (n ≡ 0 → zeros ≡ true) → from_whole zeros (neg_ℤ (pos n)) ≡ coefficient true n
from-minus zeros zero h = ap (λ (m : Bool). coefficient m 0) (h refl)
from-minus zeros (suc n) h = refl

whole-difference : (p q : ℕ) → q ≤ p → pos p -ℤ pos q ≡ pos (p - q)
whole-difference p q h = ap (λ (n : ℕ). pos n -ℤ pos q) (sym (sub-add_cancel h)) ∙ +ℤ-neg_ℤ_cancel (pos (p - q)) (pos q)

whole-negative : (p q : ℕ) → p ≤ q → pos p -ℤ pos q ≡ neg_ℤ (pos (q - p))
whole-negative p q h =
    +ℤ_comm (pos p) (neg_ℤ (pos q))
    ∙ ap (λ (z : ℤ). neg_ℤ (pos q) +ℤ z) (sym (neg_ℤ-neg_ℤ (pos p)))
    ∙ sym (neg_ℤ-+ℤ (pos q) (neg_ℤ (pos p)))
    ∙ ap neg_ℤ (whole-difference q p h)

-- two minus sizes whose sum is zero are both zero
both_zero : (a b : ℕ) → a + b ≡ 0 → (eqb a 0 && eqb b 0) ≡ true
both_zero a b e =
    let ea : a ≡ 0 = omega arith in
    let eb : b ≡ 0 = omega arith in
    rw (eq-eqb a 0 ea, eq-eqb b 0 eb)

-- sizes of one sign are added
pub added-alike : (m : Bool) (a b : ℕ) → added_of (coefficient m a) (coefficient m b) ≡ coefficient m (a + b)
unfolding added_of
added-alike true a b =
    ap (from_whole (eqb a 0 && eqb b 0)) (sym (neg_ℤ-+ℤ (pos a) (pos b))) ∙ from-minus (eqb a 0 && eqb b 0) (a + b) (both_zero a b)
added-alike false a b = from-plus (a + b)

-- of two signs the smaller size is taken from the larger, and equal ones give plus zero
module _ (p q : ℕ) where
  pub added-above : q ≤ p → added_of (coefficient false p) (coefficient true q) ≡ coefficient false (p - q)
  unfolding added_of
  added-above h = ap (from_whole false) (whole-difference p q h) ∙ from-plus (p - q)

  pub added-below : p < q → added_of (coefficient false p) (coefficient true q) ≡ coefficient true (q - p)
  unfolding added_of
  added-below h = ap (from_whole false) (whole-negative p q (le_of_lt h)) ∙ from-minus false (q - p) (λ e. absurd (omega (arith, e)))

-- the order of the coefficients does not matter
pub added-exchanged : (a b : Coefficient) → added_of a b ≡ added_of b a
unfolding added_of
added-exchanged a b = ap₂ from_whole (and_comm (minus_zero a) (minus_zero b)) (+ℤ_comm (whole_of a) (whole_of b))

-- widths of sums
abbrev Below : ℕ → Coefficient → Type 0
Below n s = s.size < n

unlike-lt : (p q : ℕ) → p < 2 ^ 96 → q < 2 ^ 96 → (added_of (coefficient false p) (coefficient true q)).size < 2 ^ 97
unlike-lt p q hp hq =
    ⊎_elim (λ h. subst (Below (2 ^ 97)) (sym (added-above p q h)) (omega arith)) (λ h. subst (Below (2 ^ 97)) (sym (added-below p q h)) (omega arith))
    (le-or-lt q p)

pub added-lt : (am bm : Bool) (a b : ℕ) → a < 2 ^ 96 → b < 2 ^ 96 → (added_of (coefficient am a) (coefficient bm b)).size < 2 ^ 97
added-lt true true a b ha hb = subst (Below (2 ^ 97)) (sym (added-alike true a b)) (omega arith)
added-lt true false a b ha hb = subst (Below (2 ^ 97)) (added-exchanged (coefficient false b) (coefficient true a)) (unlike-lt b a hb ha)
added-lt false true a b ha hb = unlike-lt a b ha hb
added-lt false false a b ha hb = subst (Below (2 ^ 97)) (sym (added-alike false a b)) (omega arith)

moved-lt : (s : Coefficient) (biased : ℕ) → s.size < 2 ^ 97 → (moved_of s biased).size < 2 ^ 96
unfolding moved_of
moved-lt s biased h =
    of-cond (λ (n : Number). n.size < 2 ^ 96) (ltb s.size (2 ^ 96)) (λ t. ltb-true s.size (2 ^ 96) t) (λ t. omega arith)

pub finite-sum-lt : (x y : Number) → NumberFits x → NumberFits y → (finite_sum x y).size < 2 ^ 96
unfolding finite_sum
finite-sum-lt x y hx hy =
    moved-lt _ _
    (added-lt x.minus y.minus (placed x.size (y.biased - x.biased)) (placed y.size (x.biased - y.biased))
    (placed-lt _ _ hx.size-lt) (placed-lt _ _ hy.size-lt))

abbrev Word : ℕ → Type 0
Word r = r < 2 ^ 60

half_lt : (lower : Bool) (t : Number) → t.size < 2 ^ 96 → half_of lower t < 2 ^ 60
unfolding half_of
half_lt true t h = word_lt t.minus t.biased 48 (t.size % 2 ^ 48) (omega arith)
half_lt false t h = word_lt t.minus t.biased 0 (t.size / 2 ^ 48) (omega arith)

sum-word-lt : (lower : Bool) (x y : ℕ) → x < 2 ^ 60 → y < 2 ^ 60 → sum_word lower x y < 2 ^ 60
unfolding sum_word
sum-word-lt lower x y hx hy =
    of-cond Word (either_indefinite x y || unlike_infinities x y) (λ t. lit< tt)
    (λ t. of-cond Word (is_infinite x) (λ u. infinity-lt (negative 60 x))
    (λ u. of-cond Word (is_infinite y) (λ v. infinity-lt (negative 60 y))
    (λ v. half_lt lower (finite_sum (number_in x) (number_in y)) (finite-sum-lt (number_in x) (number_in y) (number_fits x hx) (number_fits y hy)))))

-- a result has 60 bits
pub floating-sum-lt : (subtract lower : Bool) (xj xk : ℕ) → xj < 2 ^ 60 → xk < 2 ^ 60 → floating_sum subtract lower xj xk < 2 ^ 60
unfolding floating_sum
floating-sum-lt subtract lower xj xk hj hk =
    sum-word-lt lower xj (addend subtract xk) hj (of-cond Word subtract (λ t. complement-lt 60 xk) (λ t. hk))

-- 31 and 33 are 30 and 32 of the complement of Xk
pub difference-is-sum : (lower : Bool) (xj xk : ℕ) → floating_sum true lower xj xk ≡ floating_sum false lower xj (complement 60 xk)
unfolding floating_sum
difference-is-sum lower xj xk = refl

pub finite-exchanged : (x y : Number) → finite_sum x y ≡ finite_sum y x
unfolding finite_sum
finite-exchanged x y =
    let e : max x.biased y.biased ≡ max y.biased x.biased = omega arith in
    ap₂ moved_of (added-exchanged (aligned x y) (aligned y x)) e

-- the choice of a special word: by an indefinite operand, by each that is infinite and by its sign
abbrev chosen : Bool → Bool → Bool → Bool → Bool → ℕ → ℕ
chosen indefinite xi yi xm ym finite =
    cond (indefinite || xi && yi && cond xm (not ym) ym) indefinite_word (cond xi (infinity_word xm) (cond yi (infinity_word ym) finite))

chosen-exchanged : (d xi yi xm ym : Bool) (n : ℕ) → chosen d xi yi xm ym n ≡ chosen d yi xi ym xm n
chosen-exchanged true xi yi xm ym n = refl
chosen-exchanged false false false xm ym n = refl
chosen-exchanged false true false xm ym n = refl
chosen-exchanged false false true xm ym n = refl
chosen-exchanged false true true true true n = refl
chosen-exchanged false true true true false n = refl
chosen-exchanged false true true false true n = refl
chosen-exchanged false true true false false n = refl

-- 30 and 32 of exchanged operands are alike, for every two words
pub sums-exchanged : (lower : Bool) (x y : ℕ) → floating_sum false lower x y ≡ floating_sum false lower y x
unfolding floating_sum sum_word
sums-exchanged lower x y =
    chosen-exchanged (either_indefinite x y) (is_infinite x) (is_infinite y) (negative 60 x) (negative 60 y) (half_of lower (finite_sum (number_in x) (number_in y)))
    ∙ ap₂ (λ (d : Bool) (n : ℕ). chosen d (is_infinite y) (is_infinite x) (negative 60 y) (negative 60 x) n)
    (or_comm (is_indefinite x) (is_indefinite y))
    (ap (half_of lower) (finite-exchanged (number_in x) (number_in y)))
