-- Where a bit of a number stands after a shift, a cut and a join.
use Rattle.std.specs.Prelude.{true, false, ◌≡◌, ℕ, ◌+◌, ◌-◌, ◌*◌, ◌/◌, ◌%◌, ◌^◌, ◌≤◌, ◌<◌}
use Rattle.std.proofs.Common.{⊎_elim, sym, ap, ◌∙◌, subst, mod-lt, sub-add_cancel, lt_of_lt_of_le, le_of_lt, le_refl, mul_assoc, mul_right_comm, add-mul, arith, leb-true, leb-false, pow_pos, pow_mono, pow-add, shr-shr}
use Rattle.std.proofs.Math.Nat.{div-eq_of_lt, mul-add-mod_self_right}
use Rattle.std.proofs.Math.Arith.{digits_div}
use Rattle.std.proofs.lemmas.Nat.{shl-shr}
use Rattle.std.proofs.Math.Pow.{split, mod-mod-pow, field, high, low, ones_split, ones_lt}
use Rattle.word_arithmetic.specs.Bits.{bit, bits, negative}
use Rattle.base_logic.specs.Laws.Choice.{le-or-lt}

pub bits-lt : (w first count : ℕ) → bits w first count < 2 ^ count
bits-lt w first count = mod-lt (w / 2 ^ first) (pow_pos count)

pub bit-lt : (w i : ℕ) → bit w i < 2
bit-lt w i = bits-lt w i 1

-- a shift right by k brings bit k + i to bit i
pub bit_shifted : (w k i : ℕ) → bit (w / 2 ^ k) i ≡ bit w (k + i)
bit_shifted w k i = ap (λ (x : ℕ). x % 2) (shr-shr w k i)

bits-cut-at : (w d i c : ℕ) → bits (w % 2 ^ (d + c + i)) i c ≡ bits w i c
bits-cut-at w d i c = ap (λ (x : ℕ). x % 2 ^ c) (field w (d + c) i) ∙ mod-mod-pow (w / 2 ^ i) d c

-- the low s bits keep their places
bits-cut : (w s i c : ℕ) → i + c ≤ s → bits (w % 2 ^ s) i c ≡ bits w i c
bits-cut w s i c h =
    let e : s - (i + c) + c + i ≡ s = omega arith in
    subst (λ (x : ℕ). bits (w % 2 ^ x) i c ≡ bits w i c) e (bits-cut-at w (s - (i + c)) i c)

pub bit_cut : (w s i : ℕ) → i < s → bit (w % 2 ^ s) i ≡ bit w i
bit_cut w s i h = bits-cut w s i 1 (omega arith)

-- bits of the s bits from g up
pub bits-of-bits : (w g s i c : ℕ) → i + c ≤ s → bits (bits w g s) i c ≡ bits w (g + i) c
bits-of-bits w g s i c h = bits-cut (w / 2 ^ g) s i c h ∙ ap (λ (x : ℕ). x % 2 ^ c) (shr-shr w g i)

-- in n bits, a shift left by s brings bit g to bit i, which is s + g
pub bits-shifted-left : (n w s g i c : ℕ) → s + g ≡ i → i + c ≤ n → bits (w * 2 ^ s % 2 ^ n) i c ≡ bits w g c
bits-shifted-left n w s g i c e h =
    bits-cut (w * 2 ^ s) n i c h
    ∙ ap (λ (x : ℕ). bits (w * 2 ^ s) x c) (sym e)
    ∙ ap (λ (x : ℕ). x % 2 ^ c) (sym (shr-shr (w * 2 ^ s) s g) ∙ ap (λ (x : ℕ). x / 2 ^ g) (shl-shr w s))

-- in n bits, a shift left by s and then by k is one by s + k
pub shifted-left-twice : (n w s k : ℕ) → w * 2 ^ s % 2 ^ n * 2 ^ k % 2 ^ n ≡ w * 2 ^ (s + k) % 2 ^ n
shifted-left-twice n w s k =
    let a : ℕ = w * 2 ^ s in
    let q : ℕ = a / 2 ^ n in
    let r : ℕ = a % 2 ^ n in
    sym (mul-add-mod_self_right (q * 2 ^ k) (2 ^ n) (r * 2 ^ k))
    ∙ ap (λ (x : ℕ). (x + r * 2 ^ k) % 2 ^ n) (mul_right_comm q (2 ^ k) (2 ^ n))
    ∙ ap (λ (x : ℕ). x % 2 ^ n) (sym (add-mul (q * 2 ^ n) r (2 ^ k)))
    ∙ ap (λ (x : ℕ). x * 2 ^ k % 2 ^ n) (split a n)
    ∙ ap (λ (x : ℕ). x % 2 ^ n) (mul_assoc w (2 ^ s) (2 ^ k) ∙ ap (λ (x : ℕ). w * x) (sym (pow-add 2 s k)))

module _ (x s y : ℕ) (h : y < 2 ^ s) where
  -- below bit s stand the bits of y
  pub bit-joined-low : (i : ℕ) → i < s → bit (x * 2 ^ s + y) i ≡ bit y i
  bit-joined-low i l = sym (bit_cut (x * 2 ^ s + y) s i l) ∙ ap (λ (z : ℕ). bit z i) (low x s h)

  -- from bit s up stand those of x
  pub bit-joined-high : (i : ℕ) → bit (x * 2 ^ s + y) (s + i) ≡ bit x i
  bit-joined-high i = sym (bit_shifted (x * 2 ^ s + y) s i) ∙ ap (λ (z : ℕ). bit z i) (high x s h)

-- nothing is left of n bits shifted right by n or more
pub shifted-out : (w n k : ℕ) → w < 2 ^ n → n ≤ k → w / 2 ^ k ≡ 0
shifted-out w n k h l = div-eq_of_lt (lt_of_lt_of_le h (pow_mono l))

-- all ones, shifted right by k
pub ones-shifted : (n k : ℕ) → (2 ^ n - 1) / 2 ^ k ≡ 2 ^ (n - k) - 1
ones-shifted n k = ⊎_elim short long (le-or-lt k n)
  where
    short : k ≤ n → (2 ^ n - 1) / 2 ^ k ≡ 2 ^ (n - k) - 1
    short h =
        ap (λ (x : ℕ). (2 ^ x - 1) / 2 ^ k) (sym (sub-add_cancel h))
        ∙ ap (λ (x : ℕ). x / 2 ^ k) (ones_split (n - k) k)
        ∙ digits_div (2 ^ (n - k) - 1) (ones_lt k)

    long : n < k → (2 ^ n - 1) / 2 ^ k ≡ 2 ^ (n - k) - 1
    long h =
        let e : 0 ≡ n - k = omega arith in
        shifted-out (2 ^ n - 1) n k (ones_lt n) (le_of_lt h) ∙ ap (λ (x : ℕ). 2 ^ x - 1) e

pub bit-ones : (n i : ℕ) → i < n → bit (2 ^ n - 1) i ≡ 1
bit-ones n i h =
    let d : ℕ = n - i - 1 in
    let e : n - i ≡ d + 1 = omega arith in
    ap (λ (x : ℕ). x % 2) (ones-shifted n i ∙ ap (λ (x : ℕ). 2 ^ x - 1) e) ∙ omega (arith, pow-add 2 d 1, pow_pos d)

-- no bit of a value of n bits is set from bit n up
pub bit-beyond : (w n i : ℕ) → w < 2 ^ n → n ≤ i → bit w i ≡ 0
bit-beyond w n i h l = ap (λ (x : ℕ). x % 2) (shifted-out w n i h l)

-- j ones above a value of s bits
pub bit-ones-above : (j s y i : ℕ) → y < 2 ^ s → s ≤ i → i < s + j → bit ((2 ^ j - 1) * 2 ^ s + y) i ≡ 1
bit-ones-above j s y i h l u =
    let e : i ≡ s + (i - s) = omega arith in
    ap (bit ((2 ^ j - 1) * 2 ^ s + y)) e ∙ bit-joined-high (2 ^ j - 1) s y h (i - s) ∙ bit-ones j (i - s) (omega arith)

-- the sign is worth half of 2 ^ n
pub sign-half : (n : ℕ) → 0 < n → 2 ^ n ≡ 2 ^ (n - 1) * 2
sign-half n p = ap (λ (x : ℕ). 2 ^ x) (sym (sub-add_cancel p)) ∙ pow-add 2 (n - 1) 1

-- the sign is bit n - 1
pub sign_set : (n w : ℕ) → 0 < n → w < 2 ^ n → negative n w ≡ true → bit w (n - 1) ≡ 1
sign_set n w p h t =
    let s : 2 ^ (n - 1) ≤ w = leb-true (2 ^ (n - 1)) w t in
    let d = sign-half n p in
    let e : w ≡ 1 * 2 ^ (n - 1) + (w - 2 ^ (n - 1)) = omega arith in
    ap (λ (x : ℕ). x / 2 ^ (n - 1) % 2) e ∙ ap (λ (x : ℕ). x % 2) (digits_div 1 {m = 2 ^ (n - 1)} (omega arith))

pub sign_clear : (n w : ℕ) → negative n w ≡ false → bit w (n - 1) ≡ 0
sign_clear n w t = bit-beyond w (n - 1) (n - 1) (leb-false (2 ^ (n - 1)) w t) (le_refl (n - 1))
