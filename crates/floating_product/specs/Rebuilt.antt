-- What the last sentence of document 02, (g), says: "The two halves are shown to rebuild the product for every finite pair, normalized or
-- not, whose result exponents stay within the limits." `Laws.Rebuilt` proves it.
use Rattle.std.specs.Prelude.{ℕ, ◌+◌, ◌-◌, ◌*◌, ◌^◌, ◌≤◌, Bool, cond, ◌≡◌, ℤ, pos, neg_ℤ, ◌+ℤ◌, ◌*ℤ◌}
use Rattle.floating_word.specs.Finite.{FiniteWord}
use Rattle.floating_word.specs.Number.{number_in}
use Rattle.floating_product.specs.Products.{exponent_sum, exponent_fall}
use Rattle.floating_word.specs.declared.number.Number.{Number}

-- the result exponent of a half stays within the limits, -1023 and 1022
pub record ExponentWithin (lower : Bool) (x y : Number) : Type 0 where
  pub least : exponent_fall x y ≤ exponent_sum lower x y
  pub most : exponent_sum lower x y - exponent_fall x y ≤ 1022 + 1023

-- a whole number by its sign and its size
abbrev pub whole_with : Bool → ℕ → ℤ
whole_with minus n = cond minus (neg_ℤ (pos n)) (pos n)

-- the value of a finite word, times 2 ^ 1023: a whole number, as no exponent is under -1023
abbrev pub scaled_value : ℕ → ℤ
scaled_value x = whole_with (number_in x).minus ((number_in x).size * 2 ^ (number_in x).biased)

-- the words u and l are finite, and their values add up to the product of the values of x and y
pub record Rebuilt (x y u l : ℕ) : Type 0 where
  pub upper-finite : FiniteWord u
  pub lower-finite : FiniteWord l
  pub value : (scaled_value u +ℤ scaled_value l) *ℤ pos (2 ^ 1023) ≡ scaled_value x *ℤ scaled_value y
