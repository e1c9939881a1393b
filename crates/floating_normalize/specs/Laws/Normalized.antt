-- What 24 leaves: widths, bit 47, and what a second 24 does.
use Rattle.std.specs.Prelude.{Bool, true, false, ◌||◌, ◌⊎◌, ◌≡◌, refl}
use Rattle.std.proofs.Common.{true≢false, inl, inr, ⊎_elim, sym, ◌∙◌, zero-mul, arith, lit<}
use Rattle.std.proofs.Math.Path.{ap}
use Prim.Native.Nat.{ℕ, ◌+◌, ◌-◌, ◌*◌, ◌^◌, ◌≤◌, ◌<◌}
use Rattle.std.specs.Int.Count.{count_leading_zeros}
use Rattle.base_logic.specs.Laws.Choice.{of-cond, le-or-lt}
use Rattle.word_arithmetic.specs.Sums.{magnitude}
use Rattle.floating_word.specs.Special.{is_infinite, is_indefinite, signed}
use Rattle.floating_word.specs.Number.{number_with, biased_from, stored_for, number_in, word_of}
use Rattle.floating_word.specs.Widths.{NumberFits}
use Rattle.floating_word.specs.Laws.Number.{number_fits, finite-biased, word_lt, word-fallen, word-under, within-not-infinite, within-not-indefinite, within-number}
use Rattle.floating_normalize.specs.Normalized.{left_places, normal_of, normalized}
use Rattle.floating_normalize.specs.Laws.Places.{places-le, places-of-zero, moved-left-lt, moved-left-top, places-of-normal}
use Rattle.floating_word.specs.declared.number.Number.{Number}
use Rattle.floating_normalize.specs.declared.normalize.Normal.{Normal}

neither : (a b : Bool) → (a || b) ≡ false → (a ≡ false) × (b ≡ false)
neither false false e = (refl, refl)
neither false true e = (refl, e)
neither true b e = absurd (true≢false e)

zero-moved : (size k : ℕ) → size < 1 → size * 2 ^ k ≡ 0
zero-moved size k h =
    let z : size ≡ 0 = omega arith in
    ap (λ (s : ℕ). s * 2 ^ k) z ∙ zero-mul (2 ^ k)

-- the word has 60 bits, the count 18
pub normal-word-lt : (x : ℕ) → x < 2 ^ 60 → (normalized x).word < 2 ^ 60
unfolding normalized normal_of
normal-word-lt x h =
    of-cond (λ (r : Normal). r.word < 2 ^ 60) (is_infinite x || is_indefinite x) (λ t. h)
    (λ t. word_lt (number_in x).minus (number_in x).biased _ _ (moved-left-lt (number_in x).size (number_fits x h).size-lt))

pub normal-count-lt : (x : ℕ) → (normalized x).count < 2 ^ 18
unfolding normalized normal_of
normal-count-lt x =
    of-cond (λ (r : Normal). r.count < 2 ^ 18) (is_infinite x || is_indefinite x) (λ t. lit< tt)
    (λ t. omega (arith, places-le (number_in x).size))

-- infinite and indefinite words pass
pub special-passes : (x : ℕ) → (is_infinite x || is_indefinite x) ≡ true → normalized x ≡ record { word = x; count = 0 }
unfolding normalized
special-passes x e = rw e

finite-normal : (x : ℕ) → (is_infinite x || is_indefinite x) ≡ false → normalized x ≡ normal_of (number_in x)
unfolding normalized
finite-normal x e = rw e

-- a size that moves by no places
unmoved : (n : Number) → left_places n.size ≡ 0 → (normal_of n).word ≡ word_of n.minus n.biased 0 n.size
unfolding normal_of
unmoved n z =
    ap (λ (k : ℕ). word_of n.minus n.biased k (n.size * 2 ^ k)) z ∙ ap (word_of n.minus n.biased 0) (omega arith)

-- a number that stays within the limits
module _ (n : Number) (f : NumberFits n) (l : n.biased ≤ 1022 + 1023) (h : left_places n.size ≤ n.biased) where
  normal-number : number_in (normal_of n).word ≡ number_with n.minus (n.size * 2 ^ left_places n.size) (n.biased - left_places n.size)
  unfolding normal_of
  normal-number = within-number n.minus n.biased (left_places n.size) _ h (omega arith) (moved-left-lt n.size f.size-lt)

  normal-not-special : (is_infinite (normal_of n).word || is_indefinite (normal_of n).word) ≡ false
  unfolding normal_of
  normal-not-special =
      rw (
        within-not-infinite n.minus n.biased (left_places n.size) _ h (omega arith) (moved-left-lt n.size f.size-lt),
        within-not-indefinite n.minus n.biased (left_places n.size) _ h (omega arith) (moved-left-lt n.size f.size-lt),
      )

  -- is as it was, where its size is not zero
  normal-again : 0 < n.size → (normal_of (number_in (normal_of n).word)).word ≡ (normal_of n).word
  unfolding normal_of
  normal-again p =
      let m : ℕ = n.size * 2 ^ left_places n.size in
      let z : left_places m ≡ 0 = places-of-normal m (moved-left-top n.size p f.size-lt) (moved-left-lt n.size f.size-lt) in
      ap (λ (a : Number). (normal_of a).word) normal-number
      ∙ unmoved (number_with n.minus m (n.biased - left_places n.size)) z
      ∙ word-fallen n.minus n.biased (left_places n.size) m h

-- under the limit a word of all zeros is left
normal-under : (n : Number) → n.biased < left_places n.size → (normal_of n).word ≡ 0
unfolding normal_of
normal-under n h = word-under n.minus n.biased (left_places n.size) _ h

-- which stays, and has a zero coefficient
zeros-size : (number_in 0).size ≡ 0
unfolding number_in magnitude
zeros-size = refl

zeros-again : (normalized 0).word ≡ 0
unfolding normalized normal_of number_in biased_from magnitude word_of count_leading_zeros
zeros-again = refl

-- a finite word: it stays within the limits, or all zeros are left
module _ (x : ℕ) (h : x < 2 ^ 60) (e : (is_infinite x || is_indefinite x) ≡ false) where
  not_infinite : is_infinite x ≡ false
  not_infinite = (neither (is_infinite x) (is_indefinite x) e).0

  top_within : left_places (number_in x).size ≤ (number_in x).biased
      → (2 ^ 47 ≤ (number_in (normal_of (number_in x)).word).size) ⊎ ((number_in (normal_of (number_in x)).word).size ≡ 0)
  top_within w =
      let n : Number = number_in x in
      let f = number_fits x h in
      let m : (number_in (normal_of n).word).size ≡ n.size * 2 ^ left_places n.size
      = ap (λ (a : Number). a.size) (normal-number n f (finite-biased x h not_infinite) w) in
      ⊎_elim (λ p. inl (omega (arith, m, moved-left-top n.size p f.size-lt))) (λ z. inr (m ∙ zero-moved n.size (left_places n.size) z)) (le-or-lt 1 n.size)

  top-under : (number_in x).biased < left_places (number_in x).size
      → (2 ^ 47 ≤ (number_in (normal_of (number_in x)).word).size) ⊎ ((number_in (normal_of (number_in x)).word).size ≡ 0)
  top-under u = inr (ap (λ (w : ℕ). (number_in w).size) (normal-under (number_in x) u) ∙ zeros-size)

  -- normalized, it has bit 47 of its size set, or a zero coefficient
  pub normalized-top : (2 ^ 47 ≤ (number_in (normalized x).word).size) ⊎ ((number_in (normalized x).word).size ≡ 0)
  normalized-top = rw (finite-normal x e) (⊎_elim top_within top-under (le-or-lt (left_places (number_in x).size) (number_in x).biased))

  again-within : 0 < (number_in x).size → left_places (number_in x).size ≤ (number_in x).biased
      → (normalized (normal_of (number_in x)).word).word ≡ (normal_of (number_in x)).word
  again-within p w =
      let n : Number = number_in x in
      let f = number_fits x h in
      let l = finite-biased x h not_infinite in
      ap (λ (r : Normal). r.word) (finite-normal (normal_of n).word (normal-not-special n f l w)) ∙ normal-again n f l w p

  again-under : (number_in x).biased < left_places (number_in x).size
      → (normalized (normal_of (number_in x)).word).word ≡ (normal_of (number_in x)).word
  again-under u = ap (λ (w : ℕ). (normalized w).word) (normal-under (number_in x) u) ∙ zeros-again ∙ sym (normal-under (number_in x) u)

  -- normalized twice, a word of a coefficient that is not zero is as normalized once
  pub normalize-twice : 0 < (number_in x).size → (normalized (normalized x).word).word ≡ (normalized x).word
  normalize-twice p =
      rw (finite-normal x e) (⊎_elim (again-within p) again-under (le-or-lt (left_places (number_in x).size) (number_in x).biased))

  -- of a zero coefficient each 24 takes 48 from the exponent
  pub normalize-zero : (number_in x).size ≡ 0 → normalized x ≡ record { word = word_of (number_in x).minus (number_in x).biased 48 0; count = 48 }
  unfolding normal_of
  normalize-zero z = finite-normal x e ∙ rw (z, places-of-zero)

-- so a word of a zero coefficient, normalized twice, is not as normalized once, until all zeros are left
pub normalize-zero-twice : ((normalized (0o2000 * 2 ^ 48)).word ≡ 0o1717 * 2 ^ 48) × ((normalized (0o1717 * 2 ^ 48)).word ≡ 0o1637 * 2 ^ 48)
unfolding normalized normal_of number_in biased_from stored_for magnitude signed word_of count_leading_zeros
normalize-zero-twice = (refl, refl)
