-- Parcels of a 60-bit word and their fields. Places are counted from 0 at the top.
use Rattle.std.specs.Prelude.{ℕ, ◌-◌, ◌*◌}
use Rattle.word_arithmetic.specs.Bits.{bits}

-- the 15-bit parcel at place 0 to 3, from bit 59 down
abbrev pub parcel : ℕ → ℕ → ℕ
parcel w place = bits w (45 - 15 * place) 15

-- the octal digits f m i j k of a parcel, at places 0 to 4
abbrev pub digit : ℕ → ℕ → ℕ
digit p place = bits p (12 - 3 * place) 3

-- the code f m
abbrev pub code : ℕ → ℕ
code p = bits p 9 6

-- the six bits j k
abbrev pub jk : ℕ → ℕ
jk p = bits p 0 6

-- K: the low 18 of the 30 bits that begin at place 0 to 2
abbrev pub constant_k : ℕ → ℕ → ℕ
constant_k w place = bits w (30 - 15 * place) 18
