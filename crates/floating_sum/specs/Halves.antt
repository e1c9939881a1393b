-- Coefficients and sums whose sizes, of up to 97 bits, are in halves, of which the lower has 48: how the code has what `Sums` says of whole numbers.
use Rattle.std.specs.Prelude.{ℕ, ◌^◌, ◌<◌, Bool}
use Rattle.floating_sum.specs.Sums.{Coefficient, coefficient}
use Rattle.floating_word.specs.Number.{number_with}
use Rattle.floating_word.specs.Halves.{whole, halves_of}
use Rattle.floating_word.specs.declared.number.Number.{Number}
use Rattle.floating_word.specs.declared.halves.Halves.{Halves}
use Rattle.floating_sum.specs.declared.sums.Aligned.{Aligned}
use Rattle.floating_sum.specs.declared.sums.Sum.{Sum}
use Rattle.floating_sum.specs.declared.sums.Total.{Total}

-- a coefficient as aligned
abbrev pub aligned_in : Aligned → Coefficient
aligned_in a = coefficient a.minus (whole a.size.halves)

-- halves under a sign: a sum, of 97 bits
abbrev pub signed_halves : Bool → Halves → Sum
signed_halves minus a = record { minus = minus; size = a }

abbrev pub sum_in : Sum → Coefficient
sum_in s = coefficient s.minus (whole s.size)

abbrev pub cut_sum : Coefficient → Sum
cut_sum s = signed_halves s.minus (halves_of s.size)

pub record Cut97 (s : Sum) : Type 0 where
  pub high_lt : s.size.high < 2 ^ 49
  pub low-lt : s.size.low < 2 ^ 48

-- with an exponent too: a sum of 96 bits
abbrev pub raised_halves : Bool → ℕ → Halves → Total
raised_halves minus biased a = record { minus = minus; size = a; biased = biased }

abbrev pub total_in : Total → Number
total_in t = number_with t.minus (whole t.size) t.biased

abbrev pub cut_total : Number → Total
cut_total t = raised_halves t.minus t.biased (halves_of t.size)

pub record Cut96 (t : Total) : Type 0 where
  pub high_lt : t.size.high < 2 ^ 48
  pub low-lt : t.size.low < 2 ^ 48
