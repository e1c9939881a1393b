-- The special words: by their magnitude, under a complement, and their widths.
use Rattle.std.specs.Prelude.{Bool, cond, ◌≡◌, refl, ℕ, ◌-◌, ◌*◌, ◌/◌, ◌^◌, ◌≤◌, ◌<◌, eqb}
use Rattle.std.proofs.Math.Bool.{true, false, or-false}
use Rattle.std.proofs.Common.{⊎_elim, sym, ap, ◌∙◌, arith, lit<}
use borrow.Author.Tests.{eqb-true, eqb-false, eq-eqb, ne_eqb, le-leb, lt-leb}
use Rattle.base_logic.specs.Laws.Choice.{le-or-lt}
use Rattle.word_arithmetic.specs.Bits.{negative}
use Rattle.word_arithmetic.specs.Sums.{complement, magnitude}
use Rattle.word_arithmetic.specs.Laws.Sums.{magnitude-complement, complement-lt}
use Rattle.floating_word.specs.Special.{top_is, is_infinite, is_indefinite, signed, infinity_word}
use Rattle.floating_word.specs.Number.{stored_in}

-- two tests of equal numbers that hold together
same_test : (a b c d : ℕ) → (a ≡ b → c ≡ d) → (c ≡ d → a ≡ b) → eqb a b ≡ eqb c d
same_test a b c d f g = by-test (eqb a b) refl
  where
    by-test : (t : Bool) → eqb a b ≡ t → t ≡ eqb c d
    by-test true e = sym (eq-eqb c d (f (eqb-true a b e)))
    by-test false e = sym (ne_eqb c d (λ p. eqb-false a b e (g p)))

-- the top 12 bits of a word are t, or its complement in a negative word, exactly where t is stored for the exponent
top-stored : (x t : ℕ) → t < 0o4000 → x < 2 ^ 60 → top_is x t (0o7777 - t) ≡ eqb (stored_in x) t
unfolding magnitude
top-stored x t l h = ⊎_elim minus plus (le-or-lt (2 ^ 59) x)
  where
    minus : 2 ^ 59 ≤ x → top_is x t (0o7777 - t) ≡ eqb (stored_in x) t
    minus k =
        rw (le-leb (2 ^ 59) x k, ne_eqb (x / 2 ^ 48) t (λ e. omega (arith, e)))
        (same_test (x / 2 ^ 48) (0o7777 - t) (complement 60 x / 2 ^ 48) t (λ e. omega (arith, e)) (λ e. omega (arith, e)))

    plus : x < 2 ^ 59 → top_is x t (0o7777 - t) ≡ eqb (stored_in x) t
    plus k = rw (lt-leb (2 ^ 59) x k, ne_eqb (x / 2 ^ 48) (0o7777 - t) (λ e. omega (arith, e))) (or-false (eqb (x / 2 ^ 48) t))

module _ (x : ℕ) (h : x < 2 ^ 60) where
  pub infinite-stored : is_infinite x ≡ eqb (stored_in x) 0o3777
  infinite-stored = top-stored x 0o3777 (lit< tt) h

  pub indefinite-stored : is_indefinite x ≡ eqb (stored_in x) 0o1777
  indefinite-stored = top-stored x 0o1777 (lit< tt) h

  stored-complement : stored_in (complement 60 x) ≡ stored_in x
  stored-complement = ap (λ (m : ℕ). m / 2 ^ 48) (magnitude-complement 60 x (lit< tt) h)

-- the complement of a word is special as the word is
module _ (x : ℕ) (h : x < 2 ^ 60) where
  pub infinite-complement : is_infinite (complement 60 x) ≡ is_infinite x
  infinite-complement =
      infinite-stored (complement 60 x) (complement-lt 60 x) ∙ ap (λ (s : ℕ). eqb s 0o3777) (stored-complement x h) ∙ sym (infinite-stored x h)

  pub indefinite-complement : is_indefinite (complement 60 x) ≡ is_indefinite x
  indefinite-complement =
      indefinite-stored (complement 60 x) (complement-lt 60 x) ∙ ap (λ (s : ℕ). eqb s 0o1777) (stored-complement x h) ∙ sym (indefinite-stored x h)

-- a word with a sign has 60 bits
pub signed-word-lt : (m : Bool) (w : ℕ) → w < 2 ^ 60 → signed m w < 2 ^ 60
unfolding signed
signed-word-lt true w h = complement-lt 60 w
signed-word-lt false w h = h

pub infinity-lt : (m : Bool) → infinity_word m < 2 ^ 60
infinity-lt m = signed-word-lt m (0o3777 * 2 ^ 48) (lit< tt)

-- of a word below the sign's bit it has that sign, and the word is its magnitude
module _ (m : Bool) (w : ℕ) (h : w < 2 ^ 59) where
  pub signed-negative : negative 60 (signed m w) ≡ m
  unfolding signed
  signed-negative = by_sign m
    where
      by_sign : (m : Bool) → negative 60 (cond m (complement 60 w) w) ≡ m
      by_sign true = le-leb (2 ^ 59) (complement 60 w) (omega arith)
      by_sign false = lt-leb (2 ^ 59) w h

  pub signed-magnitude : magnitude 60 (signed m w) ≡ w
  unfolding signed magnitude
  signed-magnitude = by_sign m
    where
      by_sign : (m : Bool) → magnitude 60 (cond m (complement 60 w) w) ≡ w
      by_sign true = rw (le-leb (2 ^ 59) (complement 60 w) (omega arith)) (omega arith)
      by_sign false = rw (lt-leb (2 ^ 59) w h)
