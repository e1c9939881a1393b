-- The reader gives back the number that the writer wrote.
use Rattle.std.specs.Prelude.{Some, List, [], ◌∷◌, ◌++◌, ◌≡◌, refl, ℕ, zero, suc, ◌+◌, ◌-◌, ◌*◌, ◌/◌, ◌%◌, ◌^◌, ◌<◌, eqb}
use Rattle.std.proofs.Common.{sym, ap, subst, ◌∙◌, add_assoc, add-mul, mul_assoc, mod-lt, mod-eq_of_lt, arith, eqb-true, le-leb, lit<, pow_pos, pow-add, shr_lt}
use Rattle.std.proofs.lemmas.Nat.{mod-pow-add}
use Rattle.std.proofs.Math.Pow.{split}
use Rattle.base_logic.specs.Laws.Choice.{of-cond}
use Rattle.word_octal.specs.Read.{no_digits}
use Rattle.word_octal.specs.Text.{value_after, value_of}
use Rattle.word_octal.specs.Write.{digits, width_in, octal}
use Rattle.word_octal.specs.Laws.Read.{bytes_of, value_from, Octal, feed_digits, digits-then-space}
use Rattle.word_octal.specs.declared.read.Fed.TheVariants.{More, Number}

-- the last n octal digits of v, each as a number below 8
unfoldable digit_values : ℕ → ℕ → List ℕ
digit_values zero v = []
digit_values (suc n) v = (v / 2 ^ (3 * n) % 8) ∷ digit_values n v

octal-values : (n v : ℕ) → Octal (digit_values n v)
unfolding digit_values
octal-values zero v = tt
octal-values (suc n) v = (mod-lt (v / 2 ^ (3 * n)) (lit< tt), octal-values n v)

bytes-are : (n v : ℕ) → digits n v ≡ bytes_of (digit_values n v)
unfolding digits digit_values bytes_of
bytes-are zero v = refl
bytes-are (suc n) v = ap (λ (l : List ℕ). (48 + v / 2 ^ (3 * n) % 8) ∷ l) (bytes-are n v)

gather : (u d p r : ℕ) → (u * 8 + d) * p + r ≡ u * (8 * p) + (d * p + r)
gather u d p r = rw (add-mul (u * 8) d p, mul_assoc u 8 p) (add_assoc (u * (8 * p)) (d * p) r)

-- their value, after digits with the value u
values-are : (u n v : ℕ) → value_from u (digit_values n v) ≡ u * 2 ^ (3 * n) + v % 2 ^ (3 * n)
unfolding digit_values value_from
values-are u zero v = omega arith
values-are u (suc n) v =
    let d = v / 2 ^ (3 * n) % 8 in
    let e : 3 * suc n ≡ 3 + 3 * n = omega arith in
    values-are (u * 8 + d) n v ∙ gather u d (2 ^ (3 * n)) (v % 2 ^ (3 * n)) ∙ rw (e, mod-pow-add v 3 (3 * n), pow-add 2 3 (3 * n))

-- a first digit that is zero can be left out
without-zero : (k v : ℕ) → v < 2 ^ (3 + k) → v / 2 ^ k % 8 ≡ 0 → v < 2 ^ k
without-zero k v h e =
    let q : v / 2 ^ k ≡ 0 = sym (mod-eq_of_lt (shr_lt 3 k h)) ∙ e in
    let s : 0 * 2 ^ k + v % 2 ^ k ≡ v = rw q at (split v k) in
    let r : v % 2 ^ k ≡ v = omega (arith, s) in
    subst (λ (x : ℕ). x < 2 ^ k) r (mod-lt v (pow_pos k))

-- so no digit is lost
width-holds : (k v : ℕ) → v < 2 ^ (3 * suc k) → v < 2 ^ (3 * width_in k v)
unfolding width_in
width-holds zero v h = h
width-holds (suc k) v h =
    let e : 3 * suc (suc k) ≡ 3 + 3 * suc k = omega arith in
    of-cond (λ (w : ℕ). v < 2 ^ (3 * w)) (eqb (v / 2 ^ (3 * suc k) % 8) 0)
    (λ z. width-holds k v (without-zero (3 * suc k) v (rw e at h) (eqb-true (v / 2 ^ (3 * suc k) % 8) 0 z))) (λ z. h)

width_positive : (k v : ℕ) → 0 < width_in k v
unfolding width_in
width_positive zero v = omega arith
width_positive (suc k) v =
    of-cond (λ (w : ℕ). 0 < w) (eqb (v / 2 ^ (3 * suc k) % 8) 0) (λ z. width_positive k v) (λ z. omega arith)

read-digits : (n v : ℕ) → 0 < n → v < 2 ^ (3 * n) → v < 2 ^ 64 → feed_digits (More no_digits) (digits n v ++ (32 ∷ [])) ≡ Number v
unfolding digit_values
read-digits zero v p h k = absurd (omega arith)
read-digits (suc n) v p h k =
    let value : value_from 0 (digit_values (suc n) v) ≡ v = values-are 0 (suc n) v ∙ rw (mod-eq_of_lt h) (omega arith) in
    rw (bytes-are (suc n) v)
    (digits-then-space (v / 2 ^ (3 * n) % 8) (digit_values n v) (octal-values (suc n) v) (subst (λ (x : ℕ). x < 2 ^ 64) (sym value) k)
    ∙ ap (λ (x : ℕ). Number x) value)

-- a number that is written and followed by a space is read as that number
pub read-octal : (v : ℕ) → v < 2 ^ 64 → feed_digits (More no_digits) (octal v ++ (32 ∷ [])) ≡ Number v
unfolding octal
read-octal v h = read-digits (width_in 21 v) v (width_positive 21 v) (width-holds 21 v (omega (arith, h))) h

-- and so is one that is written with n digits, if these hold it, and read as a whole
text-bytes : (u : ℕ) (ns : List ℕ) → Octal ns → value_after u (bytes_of ns) ≡ Some (value_from u ns)
unfolding value_after bytes_of value_from
text-bytes u [] o = refl
text-bytes u (n ∷ ns) o =
    let e : 48 + n - 48 ≡ n = omega arith in
    rw (le-leb 48 (48 + n) (omega arith), le-leb (48 + n) 55 (omega (arith, o.0)), e) (text-bytes (u * 8 + n) ns o.1)

pub read-text : (n v : ℕ) → v < 2 ^ (3 * n) → value_of (digits n v) ≡ Some v
read-text n v h =
    rw (bytes-are n v)
    (text-bytes 0 (digit_values n v) (octal-values n v) ∙ ap (λ (x : ℕ). Some x) (values-are 0 n v ∙ rw (mod-eq_of_lt h) (omega arith)))
