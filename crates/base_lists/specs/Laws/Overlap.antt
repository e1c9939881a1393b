-- What the test of two parts says.
use Rattle.std.specs.Prelude.{Bool, true, false, ◌&&◌, ◌⊎◌, ◌≡◌, refl, ℕ, ◌+◌, ◌≤◌, ◌<◌, ltb}
use Rattle.std.proofs.lemmas.Bool.{false≢true}
use Rattle.std.proofs.Math.Bool.{and_comm}
use Rattle.std.proofs.Common.{inl, inr, ⊎_elim, sym, ◌∙◌, arith, lt-ltb, ltb-true}
use Rattle.base_logic.specs.Laws.Choice.{le-or-lt}
use Rattle.base_logic.specs.Laws.Tests.{both}
use Rattle.base_lists.specs.Overlap.{shares_word}

-- a word of both parts makes the test true
pub shared : (a n b k i : ℕ) → a ≤ i → i < a + n → b ≤ i → i < b + k → shares_word a n b k ≡ true
unfolding shares_word
shared a n b k i ha hn hb hk =
    rw (lt-ltb 0 n (omega arith), lt-ltb 0 k (omega arith), lt-ltb a (b + k) (omega arith), lt-ltb b (a + n) (omega arith))

-- a number that is in the n from a up and in the k from b up
pub record InBoth (a n b k : ℕ) : Type 0 where
  pub number : ℕ
  pub from-a : a ≤ number
  pub in-first : number < a + n
  pub from-b : b ≤ number
  pub in-second : number < b + k

-- and only such a word does: the later of the two beginnings is in both parts
pub common : (a n b k : ℕ) → shares_word a n b k ≡ true → InBoth a n b k
unfolding shares_word
common a n b k h =
    let h₃ = both (ltb 0 n && ltb 0 k && ltb a (b + k)) (ltb b (a + n)) h in
    let h₂ = both (ltb 0 n && ltb 0 k) (ltb a (b + k)) h₃.0 in
    let h₁ = both (ltb 0 n) (ltb 0 k) h₂.0 in
    let some-n = ltb-true 0 n h₁.0 in
    let some-k = ltb-true 0 k h₁.1 in
    let a_first = ltb-true a (b + k) h₂.1 in
    let b-first = ltb-true b (a + n) h₃.1 in
    ⊎_elim
    (λ l. record { number = b; from-a = l; in-first = b-first; from-b = omega arith; in-second = omega arith })
    (λ l. record { number = a; from-a = omega arith; in-first = omega arith; from-b = omega arith; in-second = a_first })
    (le-or-lt a b)

-- where it is false, a word of the first part that is not below the second is past its end
pub past : (a n b k i : ℕ) → shares_word a n b k ≡ false → a ≤ i → i < a + n → b ≤ i → b + k ≤ i
past a n b k i h ha hn hb =
    ⊎_elim (λ l. l) (λ l. absurd (false≢true (sym h ∙ shared a n b k i ha hn hb l))) (le-or-lt (b + k) i)

-- a word of the first part is outside the second
pub apart : (a n b k i : ℕ) → shares_word a n b k ≡ false → a ≤ i → i < a + n → (i < b) ⊎ (b + k ≤ i)
apart a n b k i h ha hn = ⊎_elim (λ l. inr (past a n b k i h ha hn l)) (λ l. inl l) (le-or-lt b i)

-- the order of the two parts is free
pub shares-comm : (a n b k : ℕ) → shares_word a n b k ≡ shares_word b k a n
unfolding shares_word
shares-comm a n b k = swapped (ltb 0 n) (ltb 0 k) (ltb a (b + k)) (ltb b (a + n))
  where
    swapped : (p q r s : Bool) → p && q && r && s ≡ q && p && s && r
    swapped true true r s = and_comm r s
    swapped true false r s = refl
    swapped false true r s = refl
    swapped false false r s = refl
