-- What shifts and joins of a u64 come to, for every width below it.
use mathlib.Core.Path.{◌≡◌, sym, ap, ◌∙◌}
use Prim.Native.Nat.{ℕ, ◌+◌, ◌-◌, ◌*◌, ◌/◌, ◌%◌, ◌^◌, ◌≤◌, ◌<◌}
use native.Mathlib.Nat.{add_comm, add-zero}
use lib.Bits.{bit_or, or_shifted, or_shifted_r}
use lib.Pow.{high_ones, split, shl_exact, shl_lt}

-- j ones set above a value of k bits
pub or-ones : (j k a : ℕ) → a < 2 ^ k → bit_or a (2 ^ (j + k) - 2 ^ k) ≡ a + (2 ^ (j + k) - 2 ^ k)
or-ones j k a h =
    ap (bit_or a) (high_ones j k)
    ∙ or_shifted_r (2 ^ j - 1) k a h
    ∙ add_comm ((2 ^ j - 1) * 2 ^ k) a
    ∙ ap (λ (x : ℕ). a + x) (sym (high_ones j k))

-- y set below the digits of x
pub or-low : (k x y : ℕ) → x % 2 ^ k ≡ 0 → y < 2 ^ k → bit_or x y ≡ x + y
or-low k x y e h =
    let s : x ≡ x / 2 ^ k * 2 ^ k = sym (split x k) ∙ ap (λ (r : ℕ). x / 2 ^ k * 2 ^ k + r) e ∙ add-zero (x / 2 ^ k * 2 ^ k) in
    ap (λ (z : ℕ). bit_or z y) s ∙ or_shifted (x / 2 ^ k) k y h ∙ ap (λ (z : ℕ). z + y) (sym s)

-- the same for a y of j bits that is shifted left by k in a machine word of v bits
pub or-shifted-left : (v j k x y : ℕ) → x % 2 ^ (j + k) ≡ 0 → y < 2 ^ j → j + k ≤ v → bit_or x (y * 2 ^ k % 2 ^ v) ≡ x + y * 2 ^ k
or-shifted-left v j k x y e h l = ap (bit_or x) (shl_exact j k v h l) ∙ or-low (j + k) x (y * 2 ^ k) e (shl_lt j k h)

-- in a machine word of v bits, a value of j bits above one of k bits
pub or-above : (v j k hi lo : ℕ) → j + k ≤ v → hi < 2 ^ j → lo < 2 ^ k → bit_or (hi * 2 ^ k % 2 ^ v) lo ≡ hi * 2 ^ k + lo
or-above v j k hi lo l h b = ap (λ (z : ℕ). bit_or z lo) (shl_exact j k v h l) ∙ or_shifted hi k lo b
