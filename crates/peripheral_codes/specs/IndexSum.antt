-- The sum m + (d), with an end-around carry, for m and (d) of n bits. They have 12: 2 ^ n is 10000 in octal, 2 ^ n - 1 is 7777.
use Rattle.std.specs.Prelude.{cond, ◌≡◌, refl, ℕ, ◌+◌, ◌-◌, ◌^◌, ltb}

-- "The sum m + (d) carries round: above 7777 it loses 10000 and gains one, and a sum of exactly 7777 stays, unlike A's."
unfoldable pub index_sum : ℕ → ℕ → ℕ → ℕ
index_sum n base index = cond (ltb (2 ^ n - 1) (base + index)) (base + index - 2 ^ n + 1) (base + index)

-- "With m = 0100 and (d) = 7776 the address is 0077."
pub index-worked : index_sum 12 0o100 0o7776 ≡ 0o77
unfolding index_sum
index-worked = refl
