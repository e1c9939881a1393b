-- The places by which 24 moves a size left.
use Rattle.std.specs.Prelude.{◌≡◌, ℕ, ◌+◌, ◌*◌, ◌^◌, ◌≤◌, ◌<◌}
use Rattle.std.proofs.Common.{sym, ◌∙◌, subst, le_trans, le_of_eq, mul-le-mul_right, add_comm, arith, pow-add, shl_lt}
use Rattle.std.specs.Int.Count.{count_leading_zeros, leading_unique, leading_of_zero}
use Rattle.std.proofs.lemmas.Nat.{leading_length, leading_top, leading_le}
use Rattle.floating_normalize.specs.Normalized.{left_places}

-- j more bits have j more zeros at the top
pub leading_wider : (k j a : ℕ) → a < 2 ^ k → count_leading_zeros (k + j) a ≡ count_leading_zeros k a + j
leading_wider k j a h =
    let s = leading_length k a h in
    let e : count_leading_zeros k a + j + s.0 ≡ k + j = omega (arith, s.1) in
    sym (leading_unique (k + j) a (count_leading_zeros k a + j) s.0 e s.2 s.3)

pub places-le : (size : ℕ) → left_places size ≤ 48
places-le size = leading_le 48 size

-- "for a zero coefficient counts 48"
pub places-of-zero : left_places 0 ≡ 48
places-of-zero = leading_of_zero 48

-- no bit is lost on the left
pub moved-left-lt : (size : ℕ) → size < 2 ^ 48 → size * 2 ^ left_places size < 2 ^ 48
moved-left-lt size h =
    let s = leading_length 48 size h in
    let e : s.0 + left_places size ≡ 48 = add_comm s.0 (left_places size) ∙ s.1 in
    subst (λ (x : ℕ). size * 2 ^ left_places size < 2 ^ x) e (shl_lt s.0 (left_places size) s.2)

-- "until bit 47 of the coefficient's size is set"
pub moved-left-top : (size : ℕ) → 0 < size → size < 2 ^ 48 → 2 ^ 47 ≤ size * 2 ^ left_places size
moved-left-top size p h =
    let t = leading_top 48 size p h in
    let e : t.0 + left_places size ≡ 47 = omega (arith, t.1) in
    subst (λ (x : ℕ). 2 ^ x ≤ size * 2 ^ left_places size) e
    (le_trans (le_of_eq (pow-add 2 t.0 (left_places size))) (mul-le-mul_right (2 ^ left_places size) t.2))

-- a size with bit 47 set moves by no places
pub places-of-normal : (size : ℕ) → 2 ^ 47 ≤ size → size < 2 ^ 48 → left_places size ≡ 0
places-of-normal size l h = sym (leading_unique 48 size 0 48 (omega arith) h (omega arith))
