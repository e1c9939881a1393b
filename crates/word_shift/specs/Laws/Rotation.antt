-- What a rotation of n bits comes to, for every n.
use Rattle.std.proofs.Common.{⊎_elim, sym, ap, ap₂, ◌∙◌, subst, add_comm, add-zero, sub-add_cancel, mod-lt, mod-eq_of_lt, le_of_lt, arith, pow_pos, pow-add, shr-shr, shr_lt}
use Rattle.std.specs.Prelude.{◌≡◌, ℕ, ◌+◌, ◌-◌, ◌*◌, ◌/◌, ◌%◌, ◌^◌, ◌≤◌, ◌<◌}
use Rattle.std.proofs.Math.Nat.{mul-mod_left, add-mod-mod, mod-eq-sub-mod}
use Rattle.std.proofs.Math.Arith.{digits_lt}
use Rattle.std.proofs.lemmas.Nat.{mod-pow-add, shl-shr}
use Rattle.word_arithmetic.specs.Bits.{bit}
use Rattle.base_logic.specs.Laws.Choice.{le-or-lt}
use Rattle.word_arithmetic.specs.Laws.Bits.{bit_cut, bit_shifted, bit-joined-low, bit-joined-high}
use Rattle.word_shift.specs.Shifts.{rotate_left}

-- the low m of m + s bits, brought up by s places
pub rotated-high : (m s w : ℕ) → w * 2 ^ s % 2 ^ (m + s) ≡ w % 2 ^ m * 2 ^ s
rotated-high m s w =
    mod-pow-add (w * 2 ^ s) m s
    ∙ ap₂ (λ (x y : ℕ). x % 2 ^ m * 2 ^ s + y) (shl-shr w s) (mul-mod_left w (2 ^ s))
    ∙ add-zero (w % 2 ^ m * 2 ^ s)

-- the high s of them, brought down by m places
pub rotated-low : (m s w : ℕ) → w * 2 ^ s / 2 ^ (m + s) ≡ w / 2 ^ m
rotated-low m s w =
    ap (λ (x : ℕ). w * 2 ^ s / 2 ^ x) (add_comm m s) ∙ sym (shr-shr (w * 2 ^ s) s m) ∙ ap (λ (x : ℕ). x / 2 ^ m) (shl-shr w s)

-- a rotation by s = k % n places swaps the low n - s bits with the high s
pub rotate-swaps : (n w k : ℕ) → 0 < n → rotate_left n w k ≡ w % 2 ^ (n - k % n) * 2 ^ (k % n) + w / 2 ^ (n - k % n)
unfolding rotate_left
rotate-swaps n w k p =
    let s : ℕ = k % n in
    subst
    (λ (x : ℕ). w * 2 ^ s % 2 ^ x + w * 2 ^ s / 2 ^ x ≡ w % 2 ^ (n - s) * 2 ^ s + w / 2 ^ (n - s))
    (sub-add_cancel (le_of_lt (mod-lt k p)))
    (ap₂ (λ (x y : ℕ). x + y) (rotated-high (n - s) s w) (rotated-low (n - s) s w))

-- the high s of m + s bits
pub high_lt : (m s w : ℕ) → w < 2 ^ (m + s) → w / 2 ^ m < 2 ^ s
high_lt m s w h = shr_lt s m (subst (λ (x : ℕ). w < 2 ^ x) (add_comm m s) h)

swapped-lt : (m s w : ℕ) → w < 2 ^ (m + s) → w % 2 ^ m * 2 ^ s + w / 2 ^ m < 2 ^ (m + s)
swapped-lt m s w h = rw (pow-add 2 m s) (digits_lt (mod-lt w (pow_pos m)) (high_lt m s w h))

pub rotate-lt : (n w k : ℕ) → 0 < n → w < 2 ^ n → rotate_left n w k < 2 ^ n
rotate-lt n w k p h =
    let s : ℕ = k % n in
    rw (rotate-swaps n w k p)
    (subst (λ (x : ℕ). w < 2 ^ x → w % 2 ^ (n - s) * 2 ^ s + w / 2 ^ (n - s) < 2 ^ x) (sub-add_cancel (le_of_lt (mod-lt k p))) (swapped-lt (n - s) s w) h)

swapped-bit : (m s w i : ℕ) → w < 2 ^ (m + s) → i < m + s → bit (w % 2 ^ m * 2 ^ s + w / 2 ^ m) ((i + s) % (m + s)) ≡ bit w i
swapped-bit m s w i h l = ⊎_elim down up (le-or-lt m i)
  where
    up : i < m → bit (w % 2 ^ m * 2 ^ s + w / 2 ^ m) ((i + s) % (m + s)) ≡ bit w i
    up k =
        let e : i + s < m + s = omega arith in
        ap (bit (w % 2 ^ m * 2 ^ s + w / 2 ^ m)) (mod-eq_of_lt e ∙ add_comm i s)
        ∙ bit-joined-high (w % 2 ^ m) s (w / 2 ^ m) (high_lt m s w h) i
        ∙ bit_cut w m i k

    down : m ≤ i → bit (w % 2 ^ m * 2 ^ s + w / 2 ^ m) ((i + s) % (m + s)) ≡ bit w i
    down k =
        let e : m + s ≤ i + s = omega arith in
        let d : i + s - (m + s) ≡ i - m = omega arith in
        let b : i - m < m + s = omega arith in
        let q : m + (i - m) ≡ i = omega arith in
        ap (bit (w % 2 ^ m * 2 ^ s + w / 2 ^ m)) (mod-eq-sub-mod e ∙ ap (λ (z : ℕ). z % (m + s)) d ∙ mod-eq_of_lt b)
        ∙ bit-joined-low (w % 2 ^ m) s (w / 2 ^ m) (high_lt m s w h) (i - m) (omega arith)
        ∙ bit_shifted w m (i - m)
        ∙ ap (bit w) q

-- a rotation by k brings bit i to bit i + k, counted round the n bits
pub rotate-bit : (n w k i : ℕ) → w < 2 ^ n → i < n → bit (rotate_left n w k) ((i + k) % n) ≡ bit w i
rotate-bit n w k i h l =
    let s : ℕ = k % n in
    let p : 0 < n = omega arith in
    ap₂ bit (rotate-swaps n w k p) (sym (add-mod-mod i k n))
    ∙ subst
    (λ (x : ℕ). w < 2 ^ x → i < x → bit (w % 2 ^ (n - s) * 2 ^ s + w / 2 ^ (n - s)) ((i + s) % x) ≡ bit w i)
    (sub-add_cancel (le_of_lt (mod-lt k p)))
    (swapped-bit (n - s) s w i)
    h
    l
