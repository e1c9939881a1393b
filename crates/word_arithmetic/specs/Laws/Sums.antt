-- What complements, magnitudes and sums of n bits come to, for every n.
use Rattle.std.specs.Prelude.{not, ◌≡◌, refl, ℕ, ◌+◌, ◌-◌, ◌*◌, ◌^◌, ◌≤◌, ◌<◌}
use Rattle.std.proofs.Math.Logic.{⊎_elim}
use Rattle.std.proofs.Common.{sym, ap, ◌∙◌, add_comm, sub-add_cancel, pow_pos, pow_mono}
use native.Mathlib.Omega.{arith}
use borrow.Author.Tests.{leb-true, leb-false, le-leb, lt-leb, lt-ltb, le-ltb}
use Rattle.std.proofs.Math.Pow.{high_ones}
use Rattle.word_arithmetic.specs.Bits.{bit, negative}
use Rattle.word_arithmetic.specs.Sums.{complement, magnitude, sum, difference, sign_extend}
use Rattle.word_arithmetic.specs.Laws.Bits.{bit-joined-low, bit-beyond, bit-ones-above, sign-half, sign_set, sign_clear}
use Rattle.base_logic.specs.Laws.Choice.{of-cond, le-or-lt}

pub complement-lt : (n a : ℕ) → complement n a < 2 ^ n
complement-lt n a = omega (arith, pow_pos n)

module _ (n a : ℕ) (p : 0 < n) (h : a < 2 ^ n) where
  -- a magnitude has no sign bit
  pub magnitude-lt : magnitude n a < 2 ^ (n - 1)
  unfolding magnitude
  magnitude-lt =
      of-cond (λ (r : ℕ). r < 2 ^ (n - 1)) (negative n a)
      (λ t. omega (arith, leb-true (2 ^ (n - 1)) a t, sign-half n p))
      (λ t. leb-false (2 ^ (n - 1)) a t)

  -- the complement has the other sign
  pub negative-complement : negative n (complement n a) ≡ not (negative n a)
  negative-complement =
      ⊎_elim
      (λ l. rw (le-leb (2 ^ (n - 1)) a l) (lt-leb (2 ^ (n - 1)) (complement n a) (omega (arith, sign-half n p))))
      (λ l. rw (lt-leb (2 ^ (n - 1)) a l) (le-leb (2 ^ (n - 1)) (complement n a) (omega (arith, sign-half n p))))
      (le-or-lt (2 ^ (n - 1)) a)

  -- and the same magnitude
  pub magnitude-complement : magnitude n (complement n a) ≡ magnitude n a
  unfolding magnitude
  magnitude-complement =
      let back : complement n (complement n a) ≡ a = omega arith in
      ⊎_elim
      (λ l. rw (negative-complement, le-leb (2 ^ (n - 1)) a l))
      (λ l. rw (negative-complement, lt-leb (2 ^ (n - 1)) a l) back)
      (le-or-lt (2 ^ (n - 1)) a)

module _ (n a b : ℕ) (ha : a < 2 ^ n) (hb : b < 2 ^ n) where
  -- with no carry, and not all ones, the sum is the plain one
  pub sum-plain : a + b < 2 ^ n - 1 → sum n a b ≡ a + b
  unfolding sum
  sum-plain h = rw (lt-ltb a (2 ^ n - 1 - b) (omega arith)) (omega arith)

  -- else the end-around carry takes 2 ^ n - 1 away
  pub sum-carried : 2 ^ n - 1 ≤ a + b → sum n a b ≡ a + b - (2 ^ n - 1)
  unfolding sum
  sum-carried h = rw (le-ltb a (2 ^ n - 1 - b) (omega arith)) (omega arith)

  pub sum_lt : sum n a b < 2 ^ n
  sum_lt = ⊎_elim (λ h. rw (sum-carried h) (omega arith)) (λ h. rw (sum-plain h) (omega arith)) (le-or-lt (2 ^ n - 1) (a + b))

  -- "minus zero comes only from two minus zeros"
  pub sum-minus-zero : sum n a b ≡ 2 ^ n - 1 → (a ≡ 2 ^ n - 1) × (b ≡ 2 ^ n - 1)
  sum-minus-zero e =
      ⊎_elim (λ h. omega (arith, sum-carried h)) (λ h. omega (arith, sum-plain h)) (le-or-lt (2 ^ n - 1) (a + b))

-- and two minus zeros give it
pub minus-zeros : (n : ℕ) → sum n (2 ^ n - 1) (2 ^ n - 1) ≡ 2 ^ n - 1
minus-zeros n =
    let l : 2 ^ n - 1 < 2 ^ n = omega (arith, pow_pos n) in
    sum-carried n (2 ^ n - 1) (2 ^ n - 1) l l (omega arith) ∙ omega arith

pub sum_comm : (n a b : ℕ) → a < 2 ^ n → b < 2 ^ n → sum n a b ≡ sum n b a
sum_comm n a b ha hb =
    ⊎_elim
    (λ h. sum-carried n a b ha hb h ∙ ap (λ (s : ℕ). s - (2 ^ n - 1)) (add_comm a b) ∙ sym (sum-carried n b a hb ha (omega arith)))
    (λ h. sum-plain n a b ha hb h ∙ add_comm a b ∙ sym (sum-plain n b a hb ha (omega arith)))
    (le-or-lt (2 ^ n - 1) (a + b))

-- a value and its complement give plus zero, so a - a is plus zero
pub sum-complement : (n a : ℕ) → a < 2 ^ n → sum n a (complement n a) ≡ 0
sum-complement n a h = sum-carried n a (complement n a) h (complement-lt n a) (omega arith) ∙ omega arith

pub difference-lt : (n a b : ℕ) → a < 2 ^ n → difference n a b < 2 ^ n
difference-lt n a b h = sum_lt n a (complement n b) h (complement-lt n b)

pub extend-lt : (n m a : ℕ) → n ≤ m → a < 2 ^ n → sign_extend n m a < 2 ^ m
unfolding sign_extend
extend-lt n m a l h =
    let p : 2 ^ n ≤ 2 ^ m = pow_mono l in
    of-cond (λ (r : ℕ). r < 2 ^ m) (negative n a) (λ t. omega arith) (λ t. omega arith)

extend-joined : (n m a : ℕ) → n ≤ m → a + (2 ^ m - 2 ^ n) ≡ (2 ^ (m - n) - 1) * 2 ^ n + a
extend-joined n m a l =
    ap (λ (x : ℕ). a + (2 ^ x - 2 ^ n)) (sym (sub-add_cancel l))
    ∙ ap (λ (x : ℕ). a + x) (high_ones (m - n) n)
    ∙ add_comm a ((2 ^ (m - n) - 1) * 2 ^ n)

-- sign extension keeps the n bits
pub extend-bit : (n m a i : ℕ) → n ≤ m → a < 2 ^ n → i < n → bit (sign_extend n m a) i ≡ bit a i
unfolding sign_extend
extend-bit n m a i l h u =
    of-cond (λ (r : ℕ). bit r i ≡ bit a i) (negative n a)
    (λ t. ap (λ (x : ℕ). bit x i) (extend-joined n m a l) ∙ bit-joined-low (2 ^ (m - n) - 1) n a h i u)
    (λ t. refl)

-- and has the sign in each bit above them
pub extend-fill : (n m a i : ℕ) → 0 < n → n ≤ i → i < m → a < 2 ^ n → bit (sign_extend n m a) i ≡ bit a (n - 1)
unfolding sign_extend
extend-fill n m a i p l u h =
    of-cond (λ (r : ℕ). bit r i ≡ bit a (n - 1)) (negative n a)
    (λ t. ap (λ (x : ℕ). bit x i) (extend-joined n m a (omega arith)) ∙ bit-ones-above (m - n) n a i h l (omega arith) ∙ sym (sign_set n a p h t))
    (λ t. bit-beyond a n i h l ∙ sym (sign_clear n a t))
