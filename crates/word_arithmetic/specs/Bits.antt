-- Bits of a number, counted from bit 0, the lowest. A value of n bits is a number below 2 ^ n.
use Rattle.std.specs.Prelude.{ℕ, ◌-◌, ◌/◌, ◌%◌, ◌^◌, Bool, leb}

-- the count bits of w from bit first up
abbrev pub bits : ℕ → ℕ → ℕ → ℕ
bits w first count = w / 2 ^ first % 2 ^ count

-- bit i of w
abbrev pub bit : ℕ → ℕ → ℕ
bit w i = w / 2 ^ i % 2

-- the low n bits of w
abbrev pub low : ℕ → ℕ → ℕ
low n w = w % 2 ^ n

-- the sign, which is bit n - 1 of a value of n bits, is set
abbrev pub negative : ℕ → ℕ → Bool
negative n a = leb (2 ^ (n - 1)) a
