-- What the other shifts, masks and counts come to, for every width n.
use Rattle.std.proofs.Common.{⊎_elim, sym, ap, ap₂, ◌∙◌, subst, add_comm, add-zero, sub-le, sub-add_cancel, le_of_lt, zero-add, arith, pow_pos, pow_mono, shr_lt}
use Rattle.std.specs.Prelude.{◌≡◌, ℕ, zero, suc, ◌+◌, ◌-◌, ◌*◌, ◌/◌, ◌%◌, ◌^◌, ◌≤◌, ◌<◌, ltb}
use Rattle.std.proofs.Math.Arith.{lt-one}
use Rattle.std.specs.Int.Count.{ones, ones_in, ones_step}
use Rattle.std.proofs.lemmas.Nat.{ones-le, shr_le}
use Rattle.std.proofs.Math.Pow.{high_ones}
use Rattle.word_arithmetic.specs.Bits.{bit, negative}
use Rattle.base_logic.specs.Laws.Choice.{of-cond, le-or-lt}
use Rattle.word_arithmetic.specs.Laws.Bits.{bit_shifted, bit-joined-low, bit-ones, bit-beyond, bit-ones-above, shifted-out, sign_set, sign_clear}
use Rattle.word_shift.specs.Shifts.{mask, shift_right, shift_right_signed, shift_a, count_ones}
use Rattle.word_shift.specs.Laws.Rotation.{rotate-lt}

pub mask_lt : (n k : ℕ) → mask n k < 2 ^ n
unfolding mask
mask_lt n k = omega (arith, pow_pos (n - k), pow_pos n)

-- k ones above n - k zeros
mask-joined : (n k : ℕ) → k ≤ n → mask n k ≡ (2 ^ k - 1) * 2 ^ (n - k)
unfolding mask
mask-joined n k l =
    let e : k + (n - k) ≡ n = omega arith in
    ap (λ (x : ℕ). 2 ^ x - 2 ^ (n - k)) (sym e) ∙ high_ones k (n - k)

-- from n up the mask is that of n
mask_full : (n k : ℕ) → n ≤ k → mask n k ≡ 2 ^ n - 1
unfolding mask
mask_full n k l =
    let e : n - k ≡ 0 = omega arith in
    ap (λ (x : ℕ). 2 ^ n - 2 ^ x) e

-- a value of n bits, shifted right by k
pub shift-lt : (n k w : ℕ) → w < 2 ^ n → shift_right w k < 2 ^ (n - k)
shift-lt n k w h = ⊎_elim short long (le-or-lt k n)
  where
    short : k ≤ n → w / 2 ^ k < 2 ^ (n - k)
    short l = shr_lt (n - k) k (subst (λ (x : ℕ). w < 2 ^ x) (sym (sub-add_cancel l)) h)

    long : n < k → w / 2 ^ k < 2 ^ (n - k)
    long l = omega (arith, shifted-out w n k h (le_of_lt l), pow_pos (n - k))

pub signed_lt : (n w k : ℕ) → w < 2 ^ n → shift_right_signed n w k < 2 ^ n
unfolding shift_right_signed mask
signed_lt n w k h =
    let p : 2 ^ (n - k) ≤ 2 ^ n = pow_mono (sub-le n k) in
    let q = shift-lt n k w h in
    of-cond (λ (r : ℕ). w / 2 ^ k + r < 2 ^ n) (negative n w) (λ t. omega arith) (λ t. omega arith)

-- a negative value shifted right by k: k ones above what is left
signed-joined : (n w k : ℕ) → k ≤ n → w / 2 ^ k + mask n k ≡ (2 ^ k - 1) * 2 ^ (n - k) + w / 2 ^ k
signed-joined n w k l = ap (λ (x : ℕ). w / 2 ^ k + x) (mask-joined n k l) ∙ add_comm (w / 2 ^ k) ((2 ^ k - 1) * 2 ^ (n - k))

-- a signed shift right by k brings bit i + k to bit i
pub signed-bit : (n w k i : ℕ) → w < 2 ^ n → i + k < n → bit (shift_right_signed n w k) i ≡ bit w (i + k)
unfolding shift_right_signed
signed-bit n w k i h l =
    let e : bit (w / 2 ^ k) i ≡ bit w (i + k) = bit_shifted w k i ∙ ap (bit w) (add_comm k i) in
    of-cond (λ (r : ℕ). bit (w / 2 ^ k + r) i ≡ bit w (i + k)) (negative n w)
    (λ t. ap (λ (x : ℕ). bit x i) (signed-joined n w k (omega arith)) ∙ bit-joined-low (2 ^ k - 1) (n - k) (w / 2 ^ k) (shift-lt n k w h) i (omega arith) ∙ e)
    (λ t. ap (λ (x : ℕ). bit x i) (add-zero (w / 2 ^ k)) ∙ e)

-- and fills the k bits at the top, or all, with the sign
pub signed-fill : (n w k i : ℕ) → w < 2 ^ n → i < n → n ≤ i + k → bit (shift_right_signed n w k) i ≡ bit w (n - 1)
unfolding shift_right_signed
signed-fill n w k i h u l =
    of-cond (λ (r : ℕ). bit (w / 2 ^ k + r) i ≡ bit w (n - 1)) (negative n w)
    (λ t. ⊎_elim short long (le-or-lt k n) ∙ sym (sign_set n w (omega arith) h t))
    (λ t. ap (λ (x : ℕ). bit x i) (add-zero (w / 2 ^ k)) ∙ bit-beyond (w / 2 ^ k) (n - k) i (shift-lt n k w h) (omega arith) ∙ sym (sign_clear n w t))
  where
    short : k ≤ n → bit (w / 2 ^ k + mask n k) i ≡ 1
    short q =
        ap (λ (x : ℕ). bit x i) (signed-joined n w k q) ∙ bit-ones-above k (n - k) (w / 2 ^ k) i (shift-lt n k w h) (omega arith) (omega arith)

    long : n < k → bit (w / 2 ^ k + mask n k) i ≡ 1
    long q =
        ap₂ (λ (x y : ℕ). bit (x + y) i) (shifted-out w n k h (le_of_lt q)) (mask_full n k (le_of_lt q))
        ∙ ap (λ (x : ℕ). bit x i) (zero-add (2 ^ n - 1)) ∙ bit-ones n i u

pub shift-a-lt : (d a : ℕ) → a < 2 ^ 18 → shift_a d a < 2 ^ 18
unfolding shift_a
shift-a-lt d a h =
    of-cond (λ (r : ℕ). r < 2 ^ 18) (ltb d 0o40) (λ t. rotate-lt 18 a d (omega arith) h) (λ t. omega (arith, shr_le a (0o77 - d)))

-- the library's `ones` counts the ones of a number of any length; a number of n bits has them all among these
pub count-is : (n w : ℕ) → w < 2 ^ n → ones w ≡ count_ones n w
unfolding ones_in ones
count-is zero w h = ap ones (lt-one h)
count-is (suc n) w h = ones_step w ∙ ap (λ (x : ℕ). w % 2 + x) (count-is n (w / 2) (omega arith))

pub count-le : (n w : ℕ) → w < 2 ^ n → count_ones n w ≤ n
count-le n w h = rw (← count-is n w h) (ones-le n w h)
