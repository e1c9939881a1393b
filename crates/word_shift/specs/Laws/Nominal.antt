-- What 22 and 23 come to, for every word and every Bj. `left` is the direction that the code names, `goes_left left b` the one that the shift has.
use Rattle.std.specs.Prelude.{Bool, true, false, not, cond, ◌≡◌, refl, ℕ, ◌+◌, ◌-◌, ◌/◌, ◌^◌, ◌≤◌, ◌<◌}
use Rattle.std.proofs.Common.{ap, ◌∙◌, arith}
use borrow.Author.Tests.{le-leb, lt-ltb, le-ltb}
use Rattle.std.proofs.Math.Dec.{lit<}
use Rattle.word_arithmetic.specs.Bits.{low, negative}
use Rattle.word_arithmetic.specs.Sums.{complement, magnitude}
use Rattle.base_logic.specs.Laws.Choice.{of-cond}
use Rattle.word_arithmetic.specs.Laws.Sums.{negative-complement, magnitude-complement}
use Rattle.word_shift.specs.Shifts.{rotate_left, mask, shift_right_signed}
use Rattle.word_shift.specs.Nominal.{goes_left, is_long_right, shifted_by, nominal}
use Rattle.word_shift.specs.Laws.Rotation.{rotate-lt}
use Rattle.word_shift.specs.Laws.Shifts.{signed_lt}

not-long : (left : Bool) (k : ℕ) → k ≤ 63 → is_long_right left k ≡ false
not-long true k h = refl
not-long false k h = le-ltb 63 k h

-- to turn for the other sign is to turn the other code's direction
turned : (left sign : Bool) → cond (not sign) (not left) left ≡ cond sign (not (not left)) (not left)
turned true true = refl
turned true false = refl
turned false true = refl
turned false false = refl

module _ (left : Bool) (b x : ℕ) where
  -- the result has 60 bits
  pub nominal-lt : x < 2 ^ 60 → nominal left b x < 2 ^ 60
  unfolding nominal shifted_by
  nominal-lt h =
      of-cond (λ (r : ℕ). r < 2 ^ 60) (is_long_right (goes_left left b) (magnitude 18 b)) (λ t. lit< tt)
      (λ t. of-cond (λ (r : ℕ). r < 2 ^ 60) (goes_left left b) (λ t. rotate-lt 60 x _ (lit< tt) h) (λ t. signed_lt 60 x _ h))

  -- for magnitudes to 63 it is what it was before the request
  pub nominal-short : magnitude 18 b ≤ 63
      → nominal left b x ≡ cond (goes_left left b) (rotate_left 60 x (low 6 (magnitude 18 b))) (shift_right_signed 60 x (low 6 (magnitude 18 b)))
  unfolding nominal shifted_by
  nominal-short h = rw (not-long (goes_left left b) (magnitude 18 b) h)

  -- above, to the right, it is +0, for a negative word too
  pub nominal-right-long : goes_left left b ≡ false → 63 < magnitude 18 b → nominal left b x ≡ 0
  unfolding nominal shifted_by
  nominal-right-long r h = rw (r, lt-ltb 63 (magnitude 18 b) h)

  -- to the left only the low six bits count, for every magnitude
  pub nominal-left-six : goes_left left b ≡ true → nominal left b x ≡ rotate_left 60 x (low 6 (magnitude 18 b))
  unfolding nominal shifted_by
  nominal-left-six l = rw l

  -- by the complement of Bj a code shifts as the other code does by Bj
  pub nominal-complement : b < 2 ^ 18 → nominal left (complement 18 b) x ≡ nominal (not left) b x
  unfolding nominal goes_left
  nominal-complement h =
      rw (negative-complement 18 b (lit< tt) h, magnitude-complement 18 b (lit< tt) h)
      (ap (λ (l : Bool). shifted_by l (magnitude 18 b) x) (turned left (negative 18 b)))

-- a negative word is all ones by 63 places to the right, and +0 by 64
pub nominal-63-64 : (x : ℕ) → 2 ^ 59 ≤ x → x < 2 ^ 60 → (nominal false 63 x ≡ 2 ^ 60 - 1) × (nominal false 64 x ≡ 0)
unfolding nominal goes_left magnitude shifted_by shift_right_signed mask
nominal-63-64 x l h = (simp (le-leb (2 ^ 59) x l) (omega arith), refl)

-- by no places a word stays as it is
pub nominal-zero : (left : Bool) (x : ℕ) → x < 2 ^ 60 → nominal left 0 x ≡ x
unfolding nominal goes_left magnitude shifted_by rotate_left shift_right_signed mask
nominal-zero true x h = omega arith
nominal-zero false x h = of-cond (λ (r : ℕ). x / 2 ^ 0 + r ≡ x) (negative 60 x) (λ t. omega arith) (λ t. omega arith)

-- Bj = 777777 has the magnitude 0: 22 goes right by 0 and 23 left by 0, and nothing is cleared
pub nominal-minus-zero : (left : Bool) (x : ℕ) → x < 2 ^ 60 → nominal left 0o777777 x ≡ x
nominal-minus-zero left x h = nominal-complement left 0 x (lit< tt) ∙ nominal-zero (not left) x h
