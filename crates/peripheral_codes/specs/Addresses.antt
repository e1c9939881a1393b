-- The addresses of an instruction. Its first word holds the code and d, and m is the word after it.
use Rattle.std.specs.Prelude.{cond, List, ℕ, ◌+◌, ◌*◌, ◌-◌, ◌%◌, ◌^◌, eqb, ltb, get_or}
use Rattle.peripheral_codes.specs.IndexSum.{index_sum}

abbrev pub word_at : List ℕ → ℕ → ℕ
word_at m i = get_or m i 0

-- "P counts modulo 4096"
abbrev pub onward : ℕ → ℕ → ℕ
onward p k = (p + k) % 4096

-- m
abbrev pub second : List ℕ → ℕ → ℕ
second m p = word_at m (onward p 1)

-- m + (d), "and m alone for d = 0"
unfoldable pub indexed : List ℕ → ℕ → ℕ → ℕ
indexed m p d = cond (eqb d 0) (second m p) (index_sum 12 (second m p) (word_at m d))

-- dm: the 18 bits of d and m
abbrev pub constant : List ℕ → ℕ → ℕ → ℕ
constant m p d = d * 2 ^ 12 + second m p

-- "03 to 07 count from the jump's own address: d to 37 forward, from 40 back by 77 - d"
unfoldable pub jump_target : ℕ → ℕ → ℕ
jump_target p d = cond (ltb d 0o40) ((p + d) % 4096) ((p + 4096 - (0o77 - d)) % 4096)
