-- Laws of writing digits, as the loops that write them use them.
use Rattle.std.specs.Prelude.{List, [], ◌∷◌, ◌++◌, ◌≡◌, refl, ℕ, zero, suc, ◌+◌, ◌-◌, ◌*◌, ◌/◌, ◌%◌, ◌^◌, ◌≤◌, ◌<◌, eqb, length, set}
use Rattle.std.proofs.lemmas.List.{drop-drop}
use Rattle.std.proofs.lemmas.List.Edits.{sets-eq}
use borrow.Rule.Slice.PartMut.{put_mid}
use Rattle.std.proofs.Common.{append_assoc, ap, arith, eq-eqb, ne_eqb}
use Rattle.base_logic.specs.Laws.Choice.{of-cond}
use Rattle.word_octal.specs.Write.{digit_of, digits, width_in, octal}
use Rattle.base_lists.specs.Written.{Wrote}
use Rattle.base_lists.specs.Laws.Written.{wrote-byte, Writing, writing-next, writing-end}

pub length_digits : (n v : ℕ) → length (digits n v) ≡ n
unfolding digits
length_digits zero v = refl
length_digits (suc n) v = ap suc (length_digits n v)

pub width-le : (n v : ℕ) → width_in n v ≤ suc n
unfolding width_in
width-le zero v = omega arith
width-le (suc n) v =
    let h = width-le n v in
    of-cond (λ (w : ℕ). w ≤ suc (suc n)) (eqb (v / 2 ^ (3 * suc n) % 8) 0) (λ e. omega arith) (λ e. omega arith)

pub length_octal : (v : ℕ) → length (octal v) ≤ 22
unfolding octal
length_octal v = rw length_digits (width-le 21 v)

-- the loop of `Writer::digits`, with k of n digits left
pub digits-total : {before out : List ℕ} {at i : ℕ} (n v k : ℕ) → Writing before at (digits n v) out i (digits k v)
    → i + k ≡ at + n
digits-total n v k g = omega (arith, g.total, length_digits n v, length_digits k v)

next-digit : (k v : ℕ) → 0 < k → digits k v ≡ (digit_of v (k - 1) ∷ []) ++ digits (k - 1) v
unfolding digits
next-digit zero v h = absurd (omega arith)
next-digit (suc k) v h = let e : suc k - 1 ≡ k = omega arith in rw e

pub digits-next : {before out : List ℕ} {at i d : ℕ} (n v k : ℕ) → Writing before at (digits n v) out i (digits k v) → 0 < k
    → d ≡ digit_of v (k - 1) → Writing before at (digits n v) (set out i d) (i + 1) (digits (k - 1) v)
digits-next {out = out} {i = i} n v k g h e =
    rw e (writing-next g (next-digit k v h) (wrote-byte out i (digit_of v (k - 1))))

no-digits : (k v : ℕ) → k ≡ 0 → digits k v ≡ []
unfolding digits
no-digits zero v e = refl
no-digits (suc k) v e = absurd (omega arith)

pub digits-end : {before out : List ℕ} {at i : ℕ} (n v k : ℕ) → Writing before at (digits n v) out i (digits k v) → k ≡ 0
    → Wrote before at (digits n v) out i
digits-end n v k g e = writing-end g (no-digits k v e)

-- the loop of `width`: a digit that is not zero ends it, a zero leaves the width to the digits below
pub width_found : (k v : ℕ) → 0 < k → (v / 2 ^ (3 * k) % 8 ≡ 0 → ⊥) → k + 1 ≡ width_in k v
unfolding width_in
width_found zero v h e = absurd (omega arith)
width_found (suc k) v h e = rw (ne_eqb (v / 2 ^ (3 * suc k) % 8) 0 e) (omega arith)

pub width_below : (k v : ℕ) → 0 < k → v / 2 ^ (3 * k) % 8 ≡ 0 → width_in (k - 1) v ≡ width_in k v
unfolding width_in
width_below zero v h e = absurd (omega arith)
width_below (suc k) v h e = let p : suc k - 1 ≡ k = omega arith in rw (eq-eqb (v / 2 ^ (3 * suc k) % 8) 0 e, p)

pub width_last : (k v : ℕ) → k ≡ 0 → 1 ≡ width_in k v
unfolding width_in
width_last zero v e = refl
width_last (suc k) v e = absurd (omega arith)

pub width_fits : (v : ℕ) {n : ℕ} → n ≡ width_in 21 v → n ≤ 22
width_fits v e = omega (arith, e, width-le 21 v)

pub wrote_octal : {before after : List ℕ} {at n next : ℕ} (v : ℕ) → n ≡ width_in 21 v → Wrote before at (digits n v) after next
    → Wrote before at (octal v) after next
unfolding octal
wrote_octal v e w = rw (← e) w

-- the bytes of a text, copied into the place for them
pub wrote_part : (out text copied : List ℕ) (at : ℕ) → at + length text ≤ length out → copied ≡ text
    → Wrote out at text (put_mid at (at + length text - at) out copied) (at + length text)
wrote_part out text copied at h e =
    let n : at + length text - at ≡ length text = omega arith in
    record { is = rw (e, n, sets-eq text out at h, drop-drop (length text) at out, append_assoc); ends = refl }
