-- The number of a text, as the loop that reads it uses it, and how large it can be.
use Rattle.std.specs.Prelude.{Bool, true, false, cond, Option, Some, None, List, [], ◌∷◌, ◌≡◌, refl, ℕ, suc, ◌+◌, ◌-◌, ◌*◌, ◌^◌, ◌≤◌, ◌<◌, leb, length, drop, get_or}
use Rattle.std.proofs.lemmas.Bool.{false≢true}
use Rattle.std.proofs.lemmas.Option.{cond_some}
use Rattle.std.proofs.Common.{ap, subst, pow-suc, arith, lit<, drop_of_length-le, drop-cons}
use Rattle.std.proofs.Math.Nat.{pow-le-pow_right}
use Rattle.std.proofs.Math.Numerals.{add-one}
use borrow.Author.Tests.{leb-true}
use Rattle.base_logic.specs.Laws.Choice.{of-cond}
use Rattle.base_logic.specs.Laws.Tests.{both}
use Rattle.word_octal.specs.Read.{is_digit, digit_in}
use Rattle.word_octal.specs.Text.{value_after, value_of}

pub digit-bounds : (byte : ℕ) → is_digit byte ≡ true → (48 ≤ byte) × (byte ≤ 55)
digit-bounds byte e =
    let t = both (leb 48 byte) (leb byte 55) e in
    (leb-true 48 byte t.0, leb-true byte 55 t.1)

-- the number of a byte
no-digit : (t : Bool) (n : ℕ) → cond t (Some n) None ≡ None → t ≡ false
no-digit true n e = cc
no-digit false n e = refl

digit-is : (byte : ℕ) {n : ℕ} → digit_in byte ≡ Some n → (is_digit byte ≡ true) × (byte - 48 ≡ n)
digit-is byte {n} e = cond_some (is_digit byte) (byte - 48) n e

pub digit-small : (byte : ℕ) {n : ℕ} → digit_in byte ≡ Some n → n < 8
digit-small byte e = let d = digit-is byte e in omega (arith, d.1, (digit-bounds byte d.0).1)

-- one digit more than i digits with the value v
digit-more : {v n : ℕ} (i : ℕ) → v < 8 ^ i → n < 8 → v * 8 + n < 8 ^ suc i
digit-more i h k = rw pow-suc (omega (arith, h, k))

-- the loop of `value_of`: the first i bytes are digits with the value v
pub record ValueReading (text : List ℕ) (v i : ℕ) : Type 0 where
  pub is : value_after v (drop i text) ≡ value_of text
  pub small : v < 8 ^ i

pub reading-start : (text : List ℕ) → ValueReading text 0 0
reading-start text = record { is = refl; small = lit< tt }

module _ {text : List ℕ} {v i : ℕ} (r : ValueReading text v i) where
  pub reading-end : length text ≤ i → Some v ≡ value_of text
  unfolding value_after
  reading-end h = rw (drop_of_length-le text h) at r.is

  -- of 20 digits the value has room for the last
  pub reading-room : i < 20 → v < 2 ^ 57
  reading-room h =
      let p : 8 ^ i ≤ 8 ^ 19 = pow-le-pow_right {n = 8} (lit< tt) {i = i} {j = 19} (omega arith) in
      omega (arith, p, r.small)

  module _ (h : i < length text) where
    pub reading-stop : digit_in (get_or text i 0) ≡ None → None ≡ value_of text
    unfolding value_after
    reading-stop e = rw (drop-cons text i 0 h, no-digit (is_digit (get_or text i 0)) (get_or text i 0 - 48) e) at r.is

    pub reading-next : {n : ℕ} → digit_in (get_or text i 0) ≡ Some n → ValueReading text (v * 8 + n) (i + 1)
    unfolding value_after
    reading-next e =
        let d = digit-is (get_or text i 0) e in
        record {
          is = rw add-one (rw (drop-cons text i 0 h, d.0, d.1) at r.is);
          small = rw add-one (digit-more i r.small (digit-small (get_or text i 0) e));
        }

-- a number that k octal digits hold
abbrev Below : ℕ → Option ℕ → Type 0
Below k (Some v) = v < 8 ^ k
Below k None = Unit {0}

below-after : (text : List ℕ) (v k : ℕ) → v < 8 ^ k → Below (k + length text) (value_after v text)
unfolding value_after
below-after [] v k h = let e : k + 0 ≡ k = omega arith in rw e h
below-after (byte ∷ text) v k h =
    let e : k + suc (length text) ≡ suc k + length text = omega arith in
    of-cond (Below (k + suc (length text))) (is_digit byte)
    (λ t. rw e (below-after text (v * 8 + (byte - 48)) (suc k) (digit-more k h (omega (arith, (digit-bounds byte t).1)))))
    (λ _. tt)

-- the value of at most k digits is below 8^k
pub value-below : (text : List ℕ) {v : ℕ} (k : ℕ) → value_of text ≡ Some v → length text ≤ k → v < 8 ^ k
value-below text {v} k e h =
    let n : 0 + length text ≡ length text = omega arith in
    let l : v < 8 ^ length text = subst (Below (length text)) e (rw n at (below-after text 0 0 (lit< tt))) in
    let p : 8 ^ length text ≤ 8 ^ k = pow-le-pow_right {n = 8} (lit< tt) {i = length text} {j = k} h in
    omega (arith, p, l)

pub value-word : (text : List ℕ) {v : ℕ} → value_of text ≡ Some v → length text ≤ 20 → v < 2 ^ 60
value-word text e h = omega (arith, value-below text 20 e h)

abbrev is_number : Option ℕ → Bool
is_number (Some v) = true
is_number None = false

pub not-a-number : {v : ℕ} → None ≡ Some v → ⊥
not-a-number e = false≢true (ap is_number e)
