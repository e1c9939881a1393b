-- A size in 96 bits, moved right.
use Rattle.std.specs.Prelude.{◌≡◌, ℕ, ◌+◌, ◌-◌, ◌*◌, ◌/◌, ◌^◌, ◌≤◌, ◌<◌}
use Rattle.std.proofs.Common.{sym, ap, ◌∙◌, mul_assoc, lt_of_le_of_lt, arith, pow-add, shr-shr}
use Rattle.std.proofs.lemmas.Nat.{shl-shr, shr_le}
use Rattle.word_arithmetic.specs.Laws.Bits.{shifted-out}
use Rattle.floating_sum.specs.Sums.{placed}

near-at : (size p q : ℕ) → size * 2 ^ (q + p) / 2 ^ p ≡ size * 2 ^ q
near-at size p q =
    ap (λ (x : ℕ). size * x / 2 ^ p) (pow-add 2 q p) ∙ ap (λ (x : ℕ). x / 2 ^ p) (sym (mul_assoc size (2 ^ q) (2 ^ p))) ∙ shl-shr (size * 2 ^ q) p

-- up to 48 places drop nothing
pub placed-near : (size p : ℕ) → p ≤ 48 → placed size p ≡ size * 2 ^ (48 - p)
unfolding placed
placed-near size p h =
    let e : 48 ≡ 48 - p + p = omega arith in
    ap (λ (x : ℕ). size * 2 ^ x / 2 ^ p) e ∙ near-at size p (48 - p)

-- from 48 places on nothing is left in the upper half
pub placed-far : (size p : ℕ) → 48 ≤ p → placed size p ≡ size / 2 ^ (p - 48)
unfolding placed
placed-far size p h =
    let e : p ≡ 48 + (p - 48) = omega arith in
    ap (λ (x : ℕ). size * 2 ^ 48 / 2 ^ x) e
    ∙ sym (shr-shr (size * 2 ^ 48) 48 (p - 48))
    ∙ ap (λ (x : ℕ). x / 2 ^ (p - 48)) (shl-shr size 48)

-- "96 places or more leaving only its sign"
pub placed-out : (size p : ℕ) → size < 2 ^ 48 → 96 ≤ p → placed size p ≡ 0
unfolding placed
placed-out size p h l = shifted-out (size * 2 ^ 48) 96 p (omega arith) l

-- the upper half
pub placed-high : (size p : ℕ) → placed size p / 2 ^ 48 ≡ size / 2 ^ p
unfolding placed
placed-high size p =
    shr-shr (size * 2 ^ 48) p 48
    ∙ ap (λ (x : ℕ). size * 2 ^ 48 / 2 ^ x) (omega arith)
    ∙ sym (shr-shr (size * 2 ^ 48) 48 p)
    ∙ ap (λ (x : ℕ). x / 2 ^ p) (shl-shr size 48)

pub placed-lt : (size p : ℕ) → size < 2 ^ 48 → placed size p < 2 ^ 96
unfolding placed
placed-lt size p h = lt_of_le_of_lt (shr_le (size * 2 ^ 48) p) (omega arith)
