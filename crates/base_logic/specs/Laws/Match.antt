-- The last arm of a `match` on a number.
use Rattle.std.specs.Prelude.{◌≡◌, ℕ, zero, suc, ◌≤◌}
use Rattle.std.proofs.Common.{sym, zero-le, le_antisymm}
use Rattle.std.proofs.Math.Arith.{lt_of_le-ne}

-- x is none of the n numbers from 0 up: what `c.match.rest` says after the arms 0 to n - 1
abbrev pub NoneOf : ℕ → ℕ → Type 0
NoneOf zero x = Unit
NoneOf (suc n) x = NoneOf n x × (x ≡ n → ⊥)

pub none-le : (n x : ℕ) → NoneOf n x → n ≤ x
none-le zero x r = zero-le
none-le (suc n) x r = lt_of_le-ne (none-le n x r.0) (λ e. r.1 (sym e))

-- the one number that is left
pub last_arm : (n x : ℕ) → x ≤ n → NoneOf n x → x ≡ n
last_arm n x h r = le_antisymm h (none-le n x r)
