-- What rotations and masks of a u64 come to, for every width below it.
use mathlib.Core.Logic.{⊎_elim}
use mathlib.Core.Path.{◌≡◌, sym, ap, ◌∙◌, subst}
use Prim.Native.Nat.{ℕ, ◌+◌, ◌-◌, ◌*◌, ◌/◌, ◌%◌, ◌^◌, ◌≤◌, ◌<◌}
use native.Mathlib.Nat.{mod-lt, sub-add_cancel, le_of_lt}
use native.Mathlib.Omega.{arith}
use lib.Bits.{bit_and, bit_or, and_mask, or_shifted}
use lib.Pow.{pow_pos, mod-mod-pow}
use Rattle.word_arithmetic.specs.Sums.{complement}
use Rattle.base_logic.specs.Laws.Choice.{le-or-lt}
use Rattle.word_arithmetic.specs.Laws.Bits.{ones-shifted, shifted-out}
use Rattle.word_arithmetic.proofs.Machine.{or-ones}
use Rattle.word_shift.specs.Shifts.{rotate_left, mask}
use Rattle.word_shift.specs.Laws.Rotation.{rotated-high, high_lt, rotate-swaps}
use Rattle.word_shift.specs.Laws.Shifts.{shift-lt}

rotated-at : (j m s w : ℕ) → w < 2 ^ (m + s)
    → bit_or (bit_and (w * 2 ^ s % 2 ^ (j + (m + s))) (2 ^ (m + s) - 1)) (w / 2 ^ m) ≡ w % 2 ^ m * 2 ^ s + w / 2 ^ m
rotated-at j m s w h =
    let high = and_mask (w * 2 ^ s % 2 ^ (j + (m + s))) (m + s) ∙ mod-mod-pow (w * 2 ^ s) j (m + s) ∙ rotated-high m s w in
    ap (λ (x : ℕ). bit_or x (w / 2 ^ m)) high ∙ or_shifted (w % 2 ^ m) s (w / 2 ^ m) (high_lt m s w h)

rotated-in : (j n w k : ℕ) → 0 < n → w < 2 ^ n
    → bit_or (bit_and (w * 2 ^ (k % n) % 2 ^ (j + n)) (2 ^ n - 1)) (w / 2 ^ (n - k % n)) ≡ rotate_left n w k
rotated-in j n w k p h =
    let s : ℕ = k % n in
    subst
    (λ (x : ℕ). w < 2 ^ x → bit_or (bit_and (w * 2 ^ s % 2 ^ (j + x)) (2 ^ x - 1)) (w / 2 ^ (n - s)) ≡ w % 2 ^ (n - s) * 2 ^ s + w / 2 ^ (n - s))
    (sub-add_cancel (le_of_lt (mod-lt k p)))
    (rotated-at j (n - s) s w)
    h
    ∙ sym (rotate-swaps n w k p)

-- a rotation of n bits by k % n places, in a machine word of v
pub rotated : (v n w k : ℕ) → 0 < n → n ≤ v → w < 2 ^ n
    → bit_or (bit_and (w * 2 ^ (k % n) % 2 ^ v) (2 ^ n - 1)) (w / 2 ^ (n - k % n)) ≡ rotate_left n w k
rotated v n w k p l h =
    subst (λ (x : ℕ). bit_or (bit_and (w * 2 ^ (k % n) % 2 ^ x) (2 ^ n - 1)) (w / 2 ^ (n - k % n)) ≡ rotate_left n w k) (sub-add_cancel l)
    (rotated-in (v - n) n w k p h)

-- the mask is the complement of the ones shifted right
pub mask_is : (n k : ℕ) → complement n ((2 ^ n - 1) / 2 ^ k) ≡ mask n k
unfolding mask
mask_is n k = ap (complement n) (ones-shifted n k) ∙ omega (arith, pow_pos (n - k), pow_pos n)

-- the mask set over a value shifted right
pub or-mask : (n k w : ℕ) → w < 2 ^ n → bit_or (w / 2 ^ k) (mask n k) ≡ w / 2 ^ k + mask n k
unfolding mask
or-mask n k w h = ⊎_elim short long (le-or-lt k n)
  where
    short : k ≤ n → bit_or (w / 2 ^ k) (2 ^ n - 2 ^ (n - k)) ≡ w / 2 ^ k + (2 ^ n - 2 ^ (n - k))
    short l =
        let e : k + (n - k) ≡ n = omega arith in
        subst (λ (x : ℕ). bit_or (w / 2 ^ k) (2 ^ x - 2 ^ (n - k)) ≡ w / 2 ^ k + (2 ^ x - 2 ^ (n - k))) e
        (or-ones k (n - k) (w / 2 ^ k) (shift-lt n k w h))

    long : n < k → bit_or (w / 2 ^ k) (2 ^ n - 2 ^ (n - k)) ≡ w / 2 ^ k + (2 ^ n - 2 ^ (n - k))
    long l =
        let e : w / 2 ^ k ≡ 0 = shifted-out w n k h (le_of_lt l) in
        ap (λ (x : ℕ). bit_or x (2 ^ n - 2 ^ (n - k))) e ∙ omega (arith, e)
