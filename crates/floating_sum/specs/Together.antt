-- What the last sentence of document 02, (f), says: "For finite operands whose two result exponents stay within the limits, upper and lower
-- together equal the whole-number sum as aligned and moved." `Laws.Together` proves it.
use Rattle.std.specs.Prelude.{ℕ, suc, ◌+◌, ◌*◌, ◌/◌, ◌^◌, ◌≤◌, cond, ◌≡◌, ltb, ℤ, pos, negsuc, neg_ℤ, nat_abs, ◌+ℤ◌}
use Rattle.floating_word.specs.Finite.{FiniteWord}
use Rattle.floating_word.specs.Number.{number_in}
use Rattle.floating_sum.specs.Sums.{coefficient, aligned, whole_of, finite_sum}
use Rattle.floating_word.specs.declared.number.Number.{Number}

-- the "two result exponents stay within the limits": the lower, which is 48 less, from below, and the upper from above
pub record WithinLimits (t : Number) : Type 0 where
  pub lower : 48 ≤ t.biased
  pub upper : t.biased ≤ 1022 + 1023

-- "the whole-number sum as aligned"
abbrev pub whole_sum : Number → Number → ℤ
whole_sum x y = whole_of (aligned x y) +ℤ whole_of (aligned y x)

-- "and moved": its size one place to the right where it has more than 96 bits
abbrev pub whole_half : ℤ → ℤ
whole_half (pos n) = pos (n / 2)
whole_half (negsuc n) = neg_ℤ (pos (suc n / 2))

unfoldable pub whole_moved : ℤ → ℤ
whole_moved z = cond (ltb (nat_abs z) (2 ^ 96)) z (whole_half z)

-- an upper word u and a lower word l "together", of the sum of x and y
pub record Together (x y : Number) (u l : ℕ) : Type 0 where
  pub upper-finite : FiniteWord u
  pub lower-finite : FiniteWord l
  pub whole : whole_of (coefficient (number_in u).minus ((number_in u).size * 2 ^ 48 + (number_in l).size)) ≡ whole_moved (whole_sum x y)
  pub exponent : (number_in u).biased ≡ (finite_sum x y).biased
  pub exponents : (number_in l).biased + 48 ≡ (number_in u).biased
  pub signs : (number_in l).minus ≡ (number_in u).minus
