-- What the index sum comes to, for every width n. The comments have the numbers of 12 bits: 7777 is 2 ^ n - 1.
use Rattle.std.proofs.Common.{⊎_elim, sym, ◌∙◌, add_comm, arith, lt-ltb, le-ltb}
use Rattle.std.specs.Prelude.{◌≡◌, refl, ℕ, ◌+◌, ◌-◌, ◌^◌, ◌≤◌, ◌<◌}
use Rattle.std.proofs.Math.Pow.{pow_pos}
use Rattle.word_arithmetic.specs.Sums.{complement, sum}
use Rattle.word_arithmetic.specs.Laws.Sums.{sum-plain, sum-carried}
use Rattle.base_logic.specs.Laws.Choice.{le-or-lt}
use Rattle.peripheral_codes.specs.IndexSum.{index_sum}

module _ (n a b : ℕ) where
  -- up to 7777 it is the plain sum
  pub index-plain : a + b < 2 ^ n → index_sum n a b ≡ a + b
  unfolding index_sum
  index-plain h = rw (le-ltb (2 ^ n - 1) (a + b) (omega arith))

  -- above, it is 7777 less
  pub index-carried : 2 ^ n ≤ a + b → index_sum n a b ≡ a + b - (2 ^ n - 1)
  unfolding index_sum
  index-carried h = rw (lt-ltb (2 ^ n - 1) (a + b) (omega (arith, pow_pos n))) (omega (arith, pow_pos n))

  pub index-lt : a < 2 ^ n → b < 2 ^ n → index_sum n a b < 2 ^ n
  index-lt ha hb = ⊎_elim (λ h. rw (index-carried h) (omega arith)) (λ h. rw (index-plain h) h) (le-or-lt (2 ^ n) (a + b))

  -- both orders of the operands give the same
  pub index-comm : index_sum n a b ≡ index_sum n b a
  unfolding index_sum
  index-comm = rw (add_comm a b)

  -- 0 comes from two zeros alone
  pub index-zero-only : index_sum n a b ≡ 0 → (a ≡ 0) × (b ≡ 0)
  index-zero-only e = ⊎_elim (λ h. omega (arith, index-carried h, pow_pos n)) (λ h. omega (arith, index-plain h)) (le-or-lt (2 ^ n) (a + b))

  -- "a sum of exactly 7777 stays"
  pub index-ones : a + b ≡ 2 ^ n - 1 → index_sum n a b ≡ 2 ^ n - 1
  index-ones e = index-plain (omega (arith, pow_pos n)) ∙ e

-- a sum with zero is the other operand, 7777 too
pub index-with-zero : (n b : ℕ) → b < 2 ^ n → index_sum n 0 b ≡ b
index-with-zero n b h = index-plain n 0 b (omega arith) ∙ omega arith

-- 7777, which is minus zero, leaves every operand but 0 as it is
pub index-minus-zero : (n a : ℕ) → 0 < a → a < 2 ^ n → index_sum n a (2 ^ n - 1) ≡ a
index-minus-zero n a p h = index-carried n a (2 ^ n - 1) (omega arith) ∙ omega arith

-- 7777 + 7777 is 7777
pub index-minus-zeros : (n : ℕ) → index_sum n (2 ^ n - 1) (2 ^ n - 1) ≡ 2 ^ n - 1
index-minus-zeros n =
    let ones = 2 ^ n - 1 in
    ⊎_elim (λ h. index-carried n ones ones h ∙ omega arith) (λ h. index-plain n ones ones h ∙ omega arith) (le-or-lt (2 ^ n) (ones + ones))

-- the complement of k is minus k: it steps back by k words
pub index_back : (n a k : ℕ) → k < a → a < 2 ^ n → index_sum n a (complement n k) ≡ a - k
index_back n a k l h = index-carried n a (complement n k) (omega arith) ∙ omega arith

-- "(d) = 7776, which is minus one": one word less from every m but 0 and 1
pub step_back : (m : ℕ) → 2 ≤ m → m ≤ 0o7777 → index_sum 12 m 0o7776 ≡ m - 1
step_back m l h = index_back 12 m 1 l (omega arith)

-- from 1 the sum is exactly 7777, which stays
pub step-back-from-1 : index_sum 12 1 0o7776 ≡ 0o7777
step-back-from-1 = index-ones 12 1 0o7776 refl

module _ (n a b : ℕ) (ha : a < 2 ^ n) (hb : b < 2 ^ n) where
  -- It is A's sum, but for a plain sum of exactly 7777.
  pub index-as-sum : (a + b ≡ 2 ^ n - 1 → ⊥) → index_sum n a b ≡ sum n a b
  index-as-sum ne =
      ⊎_elim
      (λ h. index-carried n a b h ∙ sym (sum-carried n a b ha hb (omega arith)))
      (λ h. index-plain n a b h ∙ sym (sum-plain n a b ha hb (omega (arith, ne))))
      (le-or-lt (2 ^ n) (a + b))

  -- That stays, "unlike A's", which is plus zero.
  pub index-not-sum : a + b ≡ 2 ^ n - 1 → (index_sum n a b ≡ 2 ^ n - 1) × (sum n a b ≡ 0)
  index-not-sum e = (index-ones n a b e, sum-carried n a b ha hb (omega arith) ∙ omega arith)
