-- A value by its length, how large it can be, and the line of one value.
use Rattle.std.specs.Prelude.{◌&&◌, Option, Some, None, List, ◌≡◌, ℕ, ◌^◌, ◌≤◌, ◌<◌, eqb}
use Rattle.std.proofs.Math.Bool.{and-false}
use Rattle.std.proofs.Common.{arith}
use borrow.Author.Tests.{leb-true, eqb-true, eq-eqb, ne_eqb, le-leb, lt-leb}
use Rattle.std.proofs.Math.Dec.{leb}
use Rattle.std.proofs.Math.ListN.{length}
use Rattle.base_logic.specs.Laws.Choice.{of-cond}
use Rattle.word_octal.specs.Text.{value_of}
use Rattle.base_logic.specs.Laws.Tests.{both}
use Rattle.word_octal.specs.Laws.Text.{value-below, value-word, not-a-number}
use Rattle.console_line.specs.Form.{word, number}

module _ (text : List ℕ) where
  pub word-is : length text ≡ 20 → word text ≡ value_of text
  unfolding word
  word-is e = rw (eq-eqb (length text) 20 e)

  pub word-not : (length text ≡ 20 → ⊥) → word text ≡ None
  unfolding word
  word-not e = rw (ne_eqb (length text) 20 e)

  pub number_is : 1 ≤ length text → length text ≤ 6 → number text ≡ value_of text
  unfolding number
  number_is h k = rw (le-leb 1 (length text) h, le-leb (length text) 6 k)

  pub number-empty : length text < 1 → number text ≡ None
  unfolding number
  number-empty h = rw (lt-leb 1 (length text) h)

  pub number-long : 6 < length text → number text ≡ None
  unfolding number
  number-long h = rw (lt-leb (length text) 6 h, and-false)

  -- so a value that is read has as many digits as it should
  pub word-digits : {v : ℕ} → word text ≡ Some v → (length text ≡ 20) × (value_of text ≡ Some v)
  unfolding word
  word-digits {v} e =
      of-cond (λ (r : Option ℕ). r ≡ Some v → (length text ≡ 20) × (value_of text ≡ Some v)) (eqb (length text) 20)
      (λ t f. (eqb-true (length text) 20 t, f)) (λ _ f. absurd (not-a-number f)) e

  pub number_digits : {v : ℕ} → number text ≡ Some v → ((1 ≤ length text) × (length text ≤ 6)) × (value_of text ≡ Some v)
  unfolding number
  number_digits {v} e =
      of-cond (λ (r : Option ℕ). r ≡ Some v → ((1 ≤ length text) × (length text ≤ 6)) × (value_of text ≡ Some v))
      (leb 1 (length text) && leb (length text) 6)
      (λ t f.
      let fits = both (leb 1 (length text)) (leb (length text) 6) t in
      ((leb-true 1 (length text) fits.0, leb-true (length text) 6 fits.1), f))
      (λ _ f. absurd (not-a-number f)) e

  pub word-value-below : {v : ℕ} → word text ≡ Some v → v < 2 ^ 60
  word-value-below e = let d = word-digits e in value-word text d.1 (omega (arith, d.0))

  pub number-below : {v : ℕ} → number text ≡ Some v → v < 2 ^ 18
  number-below e = let d = number_digits e in omega (arith, value-below text 6 d.1 d.0.1)
