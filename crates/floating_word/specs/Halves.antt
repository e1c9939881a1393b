-- A size of more than 48 bits as two halves, of which the lower has 48: how the code has what sums and products say of whole numbers.
use Rattle.std.specs.Prelude.{ℕ, ◌+◌, ◌*◌, ◌/◌, ◌%◌, ◌^◌, ◌<◌}
use Rattle.floating_word.specs.declared.halves.Halves.{Halves}

abbrev pub whole : Halves → ℕ
whole a = a.high * 2 ^ 48 + a.low

abbrev pub halves : ℕ → ℕ → Halves
halves high low = record { high = high; low = low }

abbrev pub halves_of : ℕ → Halves
halves_of n = halves (n / 2 ^ 48) (n % 2 ^ 48)

-- two halves of 48 bits
pub record Cut (a : Halves) : Type 0 where
  pub high_lt : a.high < 2 ^ 48
  pub low-lt : a.low < 2 ^ 48
