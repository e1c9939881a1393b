-- Decimal numbers say their value, and the loop that writes them.
use Rattle.std.specs.Prelude.{List, [], ◌∷◌, ◌≡◌, refl, ℕ, zero, suc, ◌+◌, ◌-◌, ◌*◌, ◌/◌, ◌%◌, ◌^◌, ◌≤◌, ◌<◌, eqb, length, set, take, drop, get_or}
use Rattle.std.proofs.Common.{ap, ◌∙◌, arith, eq-eqb, ne_eqb, eqb-true, length-set, length-drop, pow-add, take_all, drop-cons, drop-set-lt, get_or-set_same, lt-length-set}
use Rattle.std.proofs.lemmas.Bool.{eqb-false}
use Rattle.std.proofs.Math.Seq.{drop-length}
use Rattle.base_logic.specs.Laws.Choice.{of-cond}
use Rattle.base_lists.specs.Laws.Each.{Each}
use Rattle.base_lists.specs.Written.{Wrote}
use Rattle.console_text.specs.Line.{decimal_before, decimal_in}

-- ---- what the digits say

-- the number that bytes of decimal digits say, after digits with the value v
unfoldable pub decimal_value : ℕ → List ℕ → ℕ
decimal_value v [] = v
decimal_value v (byte ∷ bytes) = decimal_value (v * 10 + (byte - 48)) bytes

-- the byte of a decimal digit
abbrev pub IsDigit : ℕ → Type 0
IsDigit byte = (48 ≤ byte) × (byte ≤ 57)

-- without its last digit a number of n + 1 digits has n
tenth : (n v : ℕ) → v < 10 ^ suc n → v / 10 < 10 ^ n
tenth n v h =
    let more : suc n ≡ n + 1 = omega arith in
    let e : 10 ^ suc n ≡ 10 ^ n * 10 = ap (λ (k : ℕ). 10 ^ k) more ∙ pow-add 10 n 1 in
    omega (arith, h, e)

-- the value of the digits is that of the text, after digits with the value v
says-before : (n v : ℕ) (text : List ℕ) → v < 10 ^ suc n → decimal_value 0 (decimal_before (suc n) v text) ≡ decimal_value v text
unfolding decimal_before decimal_value
says-before zero v text h =
    let one : 0 * 10 + (48 + v % 10 - 48) ≡ v = omega (arith, h) in
    let none : v / 10 ≡ 0 = omega (arith, h) in
    rw (eq-eqb (v / 10) 0 none) (ap (λ (x : ℕ). decimal_value x text) one)
says-before (suc n) v text h =
    let more : v / 10 * 10 + (48 + v % 10 - 48) ≡ v = omega arith in
    of-cond (λ (l : List ℕ). decimal_value 0 l ≡ decimal_value v text) (eqb (v / 10) 0)
    (λ e. let one : 0 * 10 + (48 + v % 10 - 48) ≡ v = omega (arith, eqb-true (v / 10) 0 e) in ap (λ (x : ℕ). decimal_value x text) one)
    (λ e. says-before n (v / 10) ((48 + v % 10) ∷ text) (tenth (suc n) v h) ∙ ap (λ (x : ℕ). decimal_value x text) more)

pub decimal-says : (n v : ℕ) → v < 10 ^ suc n → decimal_value 0 (decimal_in (suc n) v) ≡ v
unfolding decimal_value
decimal-says n v h = says-before n v [] h

digits-before : (n v : ℕ) (text : List ℕ) → Each IsDigit text → Each IsDigit (decimal_before n v text)
unfolding decimal_before
digits-before zero v text k = k
digits-before (suc n) v text k =
    let digit : IsDigit (48 + v % 10) = (omega arith, omega arith) in
    of-cond (Each IsDigit) (eqb (v / 10) 0) (λ e. (digit, k)) (λ e. digits-before n (v / 10) ((48 + v % 10) ∷ text) (digit, k))

pub decimal-digits : (n v : ℕ) → Each IsDigit (decimal_in n v)
decimal-digits n v = digits-before n v [] tt

-- no leading zero stands before a number that is not 0
first-before : (n v : ℕ) (text : List ℕ) → 0 < v → v < 10 ^ n → get_or (decimal_before n v text) 0 0 ≡ 48 → ⊥
unfolding decimal_before
first-before zero v text p h = absurd (omega (arith, h))
first-before (suc n) v text p h =
    of-cond (λ (l : List ℕ). get_or l 0 0 ≡ 48 → ⊥) (eqb (v / 10) 0)
    (λ e z. omega (arith, eqb-true (v / 10) 0 e, z))
    (λ e. first-before n (v / 10) ((48 + v % 10) ∷ text) (omega (arith, eqb-false (v / 10) 0 e)) (tenth n v h))

pub decimal-first : (n v : ℕ) → 0 < v → v < 10 ^ n → get_or (decimal_in n v) 0 0 ≡ 48 → ⊥
decimal-first n v p h = first-before n v [] p h

length_before : (n v : ℕ) (text : List ℕ) → length (decimal_before n v text) ≤ n + length text
unfolding decimal_before
length_before zero v text = omega arith
length_before (suc n) v text =
    let h = length_before n (v / 10) ((48 + v % 10) ∷ text) in
    of-cond (λ (l : List ℕ). length l ≤ suc n + length text) (eqb (v / 10) 0) (λ e. omega arith) (λ e. omega (arith, h))

pub length_decimal : (n v : ℕ) → length (decimal_in n v) ≤ n
length_decimal n v = omega (arith, length_before n v [])

-- ---- the loop of `decimal_digits`: before the digits that stand in the buffer from `at` on come those of `rest`
pub record DecimalLeft (n v : ℕ) (buffer : List ℕ) (at rest : ℕ) : Type 0 where
  pub size : length buffer ≡ n
  pub most : at ≤ n
  pub is : decimal_before at rest (drop at buffer) ≡ decimal_in n v

pub decimal-start : (v : ℕ) (buffer : List ℕ) → DecimalLeft (length buffer) v buffer (length buffer) v
decimal-start v buffer = record { size = refl; most = omega arith; is = rw (drop-length buffer) }

put-before : (l : List ℕ) (i a : ℕ) → i < length l → drop i (set l i a) ≡ a ∷ drop (suc i) l
put-before l i a h = rw (drop-cons (set l i a) i 0 (lt-length-set l i a h), get_or-set_same l i a 0 h, drop-set-lt (suc i) l i a (omega arith))

-- a digit was put before the others: the first of all, or not yet
pub record DecimalPut (n v : ℕ) (buffer : List ℕ) (at rest : ℕ) : Type 0 where
  pub first : rest ≡ 0 → drop at buffer ≡ decimal_in n v
  pub more : (rest ≡ 0 → ⊥) → DecimalLeft n v buffer at rest

pub decimal-put : (n v : ℕ) (buffer : List ℕ) (at rest : ℕ) → DecimalLeft n v buffer at rest → 0 < at
    → DecimalPut n v (set buffer (at - 1) (48 + rest % 10)) (at - 1) (rest / 10)
unfolding decimal_before
decimal-put n v buffer zero rest g h = absurd (omega arith)
decimal-put n v buffer (suc i) rest g h =
    let e : suc i - 1 ≡ i = omega arith in
    let put = put-before buffer i (48 + rest % 10) (omega (arith, g.size, g.most)) in
    rw e
    (record {
      first = λ z. put ∙ rw (eq-eqb (rest / 10) 0 z) at g.is;
      more = λ z. record {
        size = length-set buffer i (48 + rest % 10) ∙ g.size;
        most = omega (arith, g.most);
        is = rw put (rw (ne_eqb (rest / 10) 0 z) at g.is);
      };
    })

pub decimal-end : {n v : ℕ} {buffer : List ℕ} {at rest : ℕ} → DecimalLeft n v buffer at rest → at ≡ 0 → drop at buffer ≡ decimal_in n v
unfolding decimal_before
decimal-end {n} {v} {buffer} {at} {rest} g e = rw e (rw e at g.is)

-- the digits in the buffer were written
pub wrote-decimal : {out out' : List ℕ} {at next : ℕ} (n v r : ℕ) (buffer : List ℕ) → length buffer ≡ n → drop r buffer ≡ decimal_in n v
    → Wrote out at (take (n - r) (drop r buffer)) out' next → Wrote out at (decimal_in n v) out' next
wrote-decimal n v r buffer size e w =
    let all = take_all (n - r) (drop r buffer) (simp length-drop (omega (arith, size))) in
    rw (← e, ← all) w
