-- The floating sums and differences, 30 to 33, by document 02, (f). Sizes and sums are whole numbers.
use Rattle.std.specs.Prelude.{ℕ, zero, suc, ◌+◌, ◌-◌, ◌*◌, ◌/◌, ◌%◌, ◌^◌, max, Bool, true, false, cond, ◌&&◌, ◌||◌, eqb, ltb, ℤ, pos, negsuc, neg_ℤ, ◌+ℤ◌}
use Rattle.word_arithmetic.specs.Bits.{negative}
use Rattle.word_arithmetic.specs.Sums.{complement}
use Rattle.floating_word.specs.Special.{is_infinite, either_indefinite, unlike_signs, infinity_word, indefinite_word}
use Rattle.floating_word.specs.Number.{number_with, number_in, word_of}
use Rattle.floating_word.specs.declared.number.Number.{Number}

-- a coefficient of any length: its sign and its size
pub record Coefficient : Type 0 where
  pub minus : Bool
  pub size : ℕ

abbrev pub coefficient : Bool → ℕ → Coefficient
coefficient minus size = record { minus = minus; size = size }

-- a size that begins in the upper 48 of 96 bits, moved "to the right in 96 bits, dropping low bits of its size"; of "96 places or more" no
-- bit is left
unfoldable pub placed : ℕ → ℕ → ℕ
placed size places = size * 2 ^ 48 / 2 ^ places

-- "aligns the coefficient with the smaller exponent": that of x beside y, by the difference of the exponents, which is 0 where that of x is
-- not the smaller
abbrev pub aligned : Number → Number → Coefficient
aligned x y = coefficient x.minus (placed x.size (y.biased - x.biased))

-- the whole number of a coefficient; that of either zero is 0
abbrev pub whole_of : Coefficient → ℤ
whole_of a = cond a.minus (neg_ℤ (pos a.size)) (pos a.size)

abbrev pub minus_zero : Coefficient → Bool
minus_zero a = a.minus && eqb a.size 0

-- a whole number as a sign and a size, where zero has the sign given
abbrev pub from_whole : Bool → ℤ → Coefficient
from_whole minus (pos zero) = coefficient minus 0
from_whole minus (pos (suc n)) = coefficient false (suc n)
from_whole minus (negsuc n) = coefficient true (suc n)

-- "and adds. A zero sum is plus unless both aligned coefficients are minus zero."
unfoldable pub added_of : Coefficient → Coefficient → Coefficient
added_of a b = from_whole (minus_zero a && minus_zero b) (whole_of a +ℤ whole_of b)

-- "On overflow it moves right one place and raises the exponent."
unfoldable pub moved_of : Coefficient → ℕ → Number
moved_of s biased =
    cond (ltb s.size (2 ^ 96)) (number_with s.minus s.size biased) (number_with s.minus (s.size / 2) (biased + 1))

-- the sum of two finite numbers, of 96 bits, with the exponent of their upper half
unfoldable pub finite_sum : Number → Number → Number
finite_sum x y = moved_of (added_of (aligned x y) (aligned y x)) (max x.biased y.biased)

-- "30 and 31 give the upper 48 bits, 32 and 33 the lower with exponent 48 less, both with the sum's sign."
unfoldable pub half_of : Bool → Number → ℕ
half_of lower t =
    cond lower (word_of t.minus t.biased 48 (t.size % 2 ^ 48))
    (word_of t.minus t.biased 0 (t.size / 2 ^ 48))

-- "infinity less infinity": two of unlike signs, where the second of a difference is complemented already
abbrev pub unlike_infinities : ℕ → ℕ → Bool
unlike_infinities x y = is_infinite x && is_infinite y && unlike_signs x y

-- "An indefinite operand, or infinity less infinity, gives 1777 and zeros; infinity with a finite number or a like infinity gives infinity."
unfoldable pub sum_word : Bool → ℕ → ℕ → ℕ
sum_word lower x y =
    cond (either_indefinite x y || unlike_infinities x y) indefinite_word
    (cond (is_infinite x) (infinity_word (negative 60 x))
    (cond (is_infinite y) (infinity_word (negative 60 y))
    (half_of lower (finite_sum (number_in x) (number_in y)))))

-- document 01: "The difference a - b is the sum of a and the complement of b."
abbrev pub addend : Bool → ℕ → ℕ
addend subtract xk = cond subtract (complement 60 xk) xk

-- 30 to 33: 31 and 33 subtract, 32 and 33 give the lower half
unfoldable pub floating_sum : Bool → Bool → ℕ → ℕ → ℕ
floating_sum subtract lower xj xk = sum_word lower xj (addend subtract xk)
