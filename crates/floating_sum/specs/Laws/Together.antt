-- The upper and the lower half of a sum make the whole-number sum.
use Rattle.std.specs.Prelude.{Bool, true, false, cond, ◌&&◌, ◌≡◌, refl, ℕ, zero, suc, ◌+◌, ◌-◌, ◌*◌, ◌/◌, ◌%◌, ◌^◌, ◌≤◌, ◌<◌, max, ltb, ℤ, pos, negsuc, nat_abs}
use Rattle.std.proofs.Common.{sym, ap₂, ◌∙◌, arith}
use Rattle.std.proofs.Math.Path.{ap}
use Rattle.base_logic.specs.Laws.Choice.{of-cond}
use Rattle.word_arithmetic.specs.Sums.{complement}
use Rattle.word_arithmetic.specs.Laws.Sums.{complement-lt}
use Rattle.floating_word.specs.Number.{number_with, number_in, word_of}
use Rattle.floating_word.specs.Widths.{NumberFits}
use Rattle.floating_word.specs.Laws.Special.{infinite-complement, indefinite-complement}
use Rattle.floating_word.specs.Laws.Number.{number_fits, word_lt, within-not-infinite, within-not-indefinite, within-number}
use Rattle.floating_sum.specs.Sums.{Coefficient, coefficient, aligned, whole_of, from_whole, minus_zero, added_of, moved_of, finite_sum, half_of, sum_word, addend, floating_sum}
use Rattle.floating_word.specs.Finite.{FiniteWord}
use Rattle.floating_sum.specs.Together.{WithinLimits, whole_sum, whole_half, whole_moved, Together}
use Rattle.floating_sum.specs.Laws.Sums.{finite-sum-lt}
use Rattle.floating_word.specs.declared.number.Number.{Number}

-- a whole number, made a sign and a size, is that whole number
whole_from : (zeros : Bool) (k : ℤ) → whole_of (from_whole zeros k) ≡ k
whole_from true (pos zero) = refl
whole_from false (pos zero) = refl
whole_from zeros (pos (suc n)) = refl
whole_from zeros (negsuc n) = refl

abs-whole : (m : Bool) (n : ℕ) → nat_abs (whole_of (coefficient m n)) ≡ n
abs-whole true zero = refl
abs-whole true (suc n) = refl
abs-whole false n = refl

half-whole : (m : Bool) (n : ℕ) → whole_half (whole_of (coefficient m n)) ≡ whole_of (coefficient m (n / 2))
half-whole true zero = refl
half-whole true (suc n) = refl
half-whole false n = refl

abbrev whole_in : Number → ℤ
whole_in n = whole_of (coefficient n.minus n.size)

moved-whole : (s : Coefficient) (biased : ℕ) → whole_in (moved_of s biased) ≡ whole_moved (whole_of s)
unfolding moved_of whole_moved
moved-whole s biased = rw (abs-whole s.minus s.size) (by-test (ltb s.size (2 ^ 96)))
  where
    by-test : (t : Bool)
        → whole_in (cond t (number_with s.minus s.size biased) (number_with s.minus (s.size / 2) (biased + 1)))
        ≡ cond t (whole_of s) (whole_half (whole_of s))
    by-test true = refl
    by-test false = sym (half-whole s.minus s.size)

-- the sum of two finite numbers is the whole-number sum, as aligned and moved
pub sum-whole : (x y : Number) → whole_in (finite_sum x y) ≡ whole_moved (whole_sum x y)
unfolding finite_sum added_of
sum-whole x y =
    moved-whole (added_of (aligned x y) (aligned y x)) (max x.biased y.biased)
    ∙ ap whole_moved (whole_from (minus_zero (aligned x y) && minus_zero (aligned y x)) (whole_sum x y))

-- a word within the limits is finite
within-finite : (minus : Bool) (biased fall size : ℕ) → fall ≤ biased → biased - fall ≤ 1022 + 1023 → size < 2 ^ 48
    → FiniteWord (word_of minus biased fall size)
within-finite minus biased fall size f l h =
    record {
      width = word_lt minus biased fall size h;
      not_infinite = within-not-infinite minus biased fall size f l h;
      not-indefinite = within-not-indefinite minus biased fall size f l h;
    }

-- what the halves of a number within the limits hold
module _ (t : Number) (h : t.size < 2 ^ 96) (w : WithinLimits t) where
  upper-number : number_in (half_of false t) ≡ number_with t.minus (t.size / 2 ^ 48) t.biased
  unfolding half_of
  upper-number =
      within-number t.minus t.biased 0 (t.size / 2 ^ 48) (omega arith) (omega (arith, w.upper)) (omega arith)
      ∙ ap (number_with t.minus (t.size / 2 ^ 48)) (omega arith)

  lower-number : number_in (half_of true t) ≡ number_with t.minus (t.size % 2 ^ 48) (t.biased - 48)
  unfolding half_of
  lower-number = within-number t.minus t.biased 48 (t.size % 2 ^ 48) w.lower (omega (arith, w.upper)) (omega arith)

  upper-finite : FiniteWord (half_of false t)
  unfolding half_of
  upper-finite = within-finite t.minus t.biased 0 (t.size / 2 ^ 48) (omega arith) (omega (arith, w.upper)) (omega arith)

  lower-finite : FiniteWord (half_of true t)
  unfolding half_of
  lower-finite = within-finite t.minus t.biased 48 (t.size % 2 ^ 48) w.lower (omega (arith, w.upper)) (omega arith)

halves-together : (x y : Number) → NumberFits x → NumberFits y → WithinLimits (finite_sum x y)
    → Together x y (half_of false (finite_sum x y)) (half_of true (finite_sum x y))
halves-together x y hx hy w =
    let t : Number = finite_sum x y in
    let u = upper-number t (finite-sum-lt x y hx hy) w in
    let l = lower-number t (finite-sum-lt x y hx hy) w in
    let size : (number_in (half_of false t)).size * 2 ^ 48 + (number_in (half_of true t)).size ≡ t.size =
    ap₂ (λ (a b : Number). a.size * 2 ^ 48 + b.size) u l ∙ omega arith
    in
    let eu : (number_in (half_of false t)).biased ≡ t.biased = ap (λ (a : Number). a.biased) u in
    let el : (number_in (half_of true t)).biased ≡ t.biased - 48 = ap (λ (a : Number). a.biased) l in
    let su : (number_in (half_of false t)).minus ≡ t.minus = ap (λ (a : Number). a.minus) u in
    let sl : (number_in (half_of true t)).minus ≡ t.minus = ap (λ (a : Number). a.minus) l in
    record {
      upper-finite = upper-finite t (finite-sum-lt x y hx hy) w;
      lower-finite = lower-finite t (finite-sum-lt x y hx hy) w;
      whole = ap whole_of (ap₂ coefficient su size) ∙ sum-whole x y;
      exponent = eu;
      exponents = omega (arith, eu, el, w.lower);
      signs = sl ∙ sym su;
    }

sum-of-finite : (lower : Bool) (x y : ℕ) → FiniteWord x → FiniteWord y → sum_word lower x y ≡ half_of lower (finite_sum (number_in x) (number_in y))
unfolding sum_word
sum-of-finite lower x y hx hy = rw (hx.not-indefinite, hy.not-indefinite, hx.not_infinite, hy.not_infinite)

complement-finite : (x : ℕ) → FiniteWord x → FiniteWord (complement 60 x)
complement-finite x h =
    record {
      width = complement-lt 60 x;
      not_infinite = infinite-complement x h.width ∙ h.not_infinite;
      not-indefinite = indefinite-complement x h.width ∙ h.not-indefinite;
    }

-- 30 with 32, and 31 with 33
pub sums-together : (subtract : Bool) (xj xk : ℕ) → FiniteWord xj → FiniteWord xk
    → WithinLimits (finite_sum (number_in xj) (number_in (addend subtract xk)))
    → Together (number_in xj) (number_in (addend subtract xk)) (floating_sum subtract false xj xk) (floating_sum subtract true xj xk)
unfolding floating_sum
sums-together subtract xj xk hj hk w =
    let hy : FiniteWord (addend subtract xk) = of-cond FiniteWord subtract (λ t. complement-finite xk hk) (λ t. hk) in
    rw (sum-of-finite false xj (addend subtract xk) hj hy, sum-of-finite true xj (addend subtract xk) hj hy)
    (halves-together (number_in xj) (number_in (addend subtract xk)) (number_fits xj hj.width) (number_fits (addend subtract xk) hy.width) w)
