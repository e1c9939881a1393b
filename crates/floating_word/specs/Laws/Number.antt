-- Words and their parts: bounds, what a word within the limits holds, and what 26 makes of it.
use Rattle.std.specs.Prelude.{Bool, false, cond, ◌≡◌, refl, ltb}
use Rattle.std.proofs.Math.Logic.{⊎_elim}
use Rattle.std.proofs.Common.{ap, sym, ◌∙◌, lit<}
use Prim.Native.Nat.{ℕ, ◌+◌, ◌-◌, ◌*◌, ◌/◌, ◌^◌, ◌≤◌, ◌<◌}
use native.Mathlib.Omega.{arith}
use borrow.Author.Tests.{lt-ltb, le-ltb, ne_eqb, ltb-true, ltb-false, eqb-false}
use Rattle.std.proofs.Math.Arith.{lt_of_le-ne}
use Rattle.base_logic.specs.Laws.Choice.{of-cond, le-or-lt}
use Rattle.word_arithmetic.specs.Bits.{low, negative}
use Rattle.word_arithmetic.specs.Sums.{complement, magnitude}
use Rattle.word_arithmetic.specs.Laws.Sums.{magnitude-lt}
use Rattle.word_shift.specs.Floating.{coefficient_of, exponent_from, exponent_of}
use Rattle.floating_word.specs.Special.{is_infinite, is_indefinite, signed}
use Rattle.floating_word.specs.Number.{number_with, stored_in, biased_from, stored_for, number_in, word_of}
use Rattle.floating_word.specs.Finite.{FiniteWord}
use Rattle.floating_word.specs.Widths.{NumberFits}
use Rattle.floating_word.specs.Laws.Special.{infinite-stored, indefinite-stored, signed-word-lt, infinity-lt, signed-negative, signed-magnitude}

number-ext : {m n : Bool} {a b e f : ℕ} → m ≡ n → a ≡ b → e ≡ f → number_with m a e ≡ number_with n b f
number-ext p q r = rw (p, q, r)

-- what is stored for an exponent within the limits has eleven bits, and is not that of a special word
module _ (biased : ℕ) where
  pub stored-for-lt : biased ≤ 1022 + 1023 → stored_for biased < 0o3777
  unfolding stored_for
  stored-for-lt h = of-cond (λ (r : ℕ). r < 0o3777) (ltb biased 1023) (λ t. omega arith) (λ t. omega arith)

  pub stored-definite : stored_for biased ≡ 0o1777 → ⊥
  unfolding stored_for
  stored-definite =
      of-cond (λ (r : ℕ). r ≡ 0o1777 → ⊥) (ltb biased 1023) (λ t e. omega (arith, ltb-true biased 1023 t)) (λ t e. omega (arith, ltb-false biased 1023 t))

  -- exponents come back from where they are stored
  pub biased-stored : biased_from (stored_for biased) ≡ biased
  unfolding biased_from stored_for
  biased-stored = ⊎_elim up below (le-or-lt 1023 biased)
    where
      up : 1023 ≤ biased → biased_from (stored_for biased) ≡ biased
      up l = rw (le-ltb biased 1023 l, le-ltb (0o2000 + (biased - 1023)) 0o2000 (omega arith)) (omega arith)

      below : biased < 1023 → biased_from (stored_for biased) ≡ biased
      below l = rw (lt-ltb biased 1023 l, lt-ltb (0o1777 + biased - 1023) 0o2000 (omega arith)) (omega arith)

-- and what is stored, but for 1777, is stored again
pub stored-biased : (stored : ℕ) → (stored ≡ 0o1777 → ⊥) → stored_for (biased_from stored) ≡ stored
unfolding biased_from stored_for
stored-biased stored n = ⊎_elim up below (le-or-lt 0o2000 stored)
  where
    up : 0o2000 ≤ stored → stored_for (biased_from stored) ≡ stored
    up l = rw (le-ltb stored 0o2000 l, le-ltb (1023 + (stored - 0o2000)) 1023 (omega arith)) (omega arith)

    below : stored < 0o2000 → stored_for (biased_from stored) ≡ stored
    below l = rw (lt-ltb stored 0o2000 l, lt-ltb (1023 + stored - 0o1777) 1023 (omega (arith, lt_of_le-ne (omega arith) n))) (omega arith)

biased-lt : (stored : ℕ) → stored < 2 ^ 11 → biased_from stored < 2 ^ 11
unfolding biased_from
biased-lt stored h = of-cond (λ (r : ℕ). r < 2 ^ 11) (ltb stored 0o2000) (λ t. omega arith) (λ t. omega arith)

-- the parts of a word
pub number_fits : (x : ℕ) → x < 2 ^ 60 → NumberFits (number_in x)
unfolding number_in
number_fits x h =
    record { size-lt = omega arith; biased-lt = biased-lt (stored_in x) (omega (arith, magnitude-lt 60 x (lit< tt) h)) }

-- the exponent of a word that is not infinite is within the limit
biased-le : (stored : ℕ) → stored < 0o3777 → biased_from stored ≤ 1022 + 1023
unfolding biased_from
biased-le stored h =
    of-cond (λ (r : ℕ). r ≤ 1022 + 1023) (ltb stored 0o2000) (λ t. omega (arith, ltb-true stored 0o2000 t)) (λ t. omega arith)

pub finite-biased : (x : ℕ) → x < 2 ^ 60 → is_infinite x ≡ false → (number_in x).biased ≤ 1022 + 1023
unfolding number_in
finite-biased x h e =
    biased-le (stored_in x)
    (lt_of_le-ne (omega (arith, magnitude-lt 60 x (lit< tt) h)) (eqb-false (stored_in x) 0o3777 (sym (infinite-stored x h) ∙ e)))

-- a result has 60 bits
pub word_lt : (minus : Bool) (biased fall size : ℕ) → size < 2 ^ 48 → word_of minus biased fall size < 2 ^ 60
unfolding word_of
word_lt minus biased fall size h =
    of-cond (λ (r : ℕ). r < 2 ^ 60) (ltb biased fall) (λ t. lit< tt)
    (λ t. of-cond (λ (r : ℕ). r < 2 ^ 60) (ltb (1022 + 1023) (biased - fall)) (λ u. infinity-lt minus)
    (λ u. signed-word-lt minus _ (omega (arith, stored-for-lt (biased - fall) (ltb-false (1022 + 1023) (biased - fall) u)))))

-- an exponent that has fallen already
pub word-fallen : (minus : Bool) (biased fall size : ℕ) → fall ≤ biased → word_of minus (biased - fall) 0 size ≡ word_of minus biased fall size
unfolding word_of
word-fallen minus biased fall size h =
    let e : biased - fall - 0 ≡ biased - fall = omega arith in
    rw (le-ltb biased fall h, le-ltb (biased - fall) 0 (omega arith), e)

-- under the limit nothing is left, not even the sign
pub word-under : (minus : Bool) (biased fall size : ℕ) → biased < fall → word_of minus biased fall size ≡ 0
unfolding word_of
word-under minus biased fall size h = rw (lt-ltb biased fall h)

-- a word within the limits
module _ (minus : Bool) (biased fall size : ℕ) (f : fall ≤ biased) (l : biased - fall ≤ 1022 + 1023) (h : size < 2 ^ 48) where
  word-within : word_of minus biased fall size ≡ signed minus (stored_for (biased - fall) * 2 ^ 48 + size)
  unfolding word_of
  word-within = rw (le-ltb biased fall f, le-ltb (1022 + 1023) (biased - fall) l)

  within-lt : stored_for (biased - fall) * 2 ^ 48 + size < 2 ^ 59
  within-lt = omega (arith, stored-for-lt (biased - fall) l)

  within-magnitude : magnitude 60 (word_of minus biased fall size) ≡ stored_for (biased - fall) * 2 ^ 48 + size
  within-magnitude = ap (magnitude 60) word-within ∙ signed-magnitude minus (stored_for (biased - fall) * 2 ^ 48 + size) within-lt

  within-stored : stored_in (word_of minus biased fall size) ≡ stored_for (biased - fall)
  within-stored = ap (λ (m : ℕ). m / 2 ^ 48) within-magnitude ∙ omega arith

  -- it is finite
  pub within-not-infinite : is_infinite (word_of minus biased fall size) ≡ false
  within-not-infinite =
      infinite-stored _ (word_lt minus biased fall size h)
      ∙ ne_eqb (stored_in (word_of minus biased fall size)) 0o3777 (λ e. omega (arith, within-stored, e, stored-for-lt (biased - fall) l))

  pub within-not-indefinite : is_indefinite (word_of minus biased fall size) ≡ false
  within-not-indefinite =
      indefinite-stored _ (word_lt minus biased fall size h) ∙ ne_eqb (stored_in (word_of minus biased fall size)) 0o1777 (λ e. stored-definite (biased - fall) (sym within-stored ∙ e))

  pub within-finite : FiniteWord (word_of minus biased fall size)
  within-finite =
      record {
        width = word_lt minus biased fall size h;
        not_infinite = within-not-infinite;
        not-indefinite = within-not-indefinite;
      }

  -- and holds the sign, the size and the exponent that it was made of
  pub within-number : number_in (word_of minus biased fall size) ≡ number_with minus size (biased - fall)
  unfolding number_in
  within-number =
      let w : ℕ = stored_for (biased - fall) * 2 ^ 48 + size in
      let s : low 48 w ≡ size = omega arith in
      number-ext (ap (negative 60) word-within ∙ signed-negative minus w within-lt) (ap (low 48) within-magnitude ∙ s)
      (ap biased_from within-stored ∙ biased-stored (biased - fall))

-- of a word within the limits the complement has the other sign
pub word-signed : (minus : Bool) (biased fall size : ℕ) → fall ≤ biased → biased - fall ≤ 1022 + 1023 → size < 2 ^ 48
    → signed minus (word_of false biased fall size) ≡ word_of minus biased fall size
unfolding signed
word-signed minus biased fall size f l h =
    ap (signed minus) (word-within false biased fall size f l h) ∙ sym (word-within minus biased fall size f l h)

-- the sign, the size and the exponent of a finite word are those that 26 sends to Xi and to Bj
pub coefficient-unpacked : (x : ℕ) → coefficient_of x ≡ signed (number_in x).minus (number_in x).size
unfolding coefficient_of signed number_in
coefficient-unpacked x = refl

abbrev exponent_in18 : ℕ → ℕ
exponent_in18 biased = cond (ltb biased 1023) (complement 18 (1023 - biased)) (biased - 1023)

stored-unpacked : (stored : ℕ) → (stored ≡ 0o1777 → ⊥) → exponent_from stored ≡ exponent_in18 (biased_from stored)
unfolding exponent_from biased_from
stored-unpacked stored n = ⊎_elim up below (le-or-lt 0o2000 stored)
  where
    up : 0o2000 ≤ stored → exponent_from stored ≡ exponent_in18 (biased_from stored)
    up l = rw (le-ltb stored 0o2000 l, le-ltb (1023 + (stored - 0o2000)) 1023 (omega arith)) (omega arith)

    below : stored < 0o2000 → exponent_from stored ≡ exponent_in18 (biased_from stored)
    below l = rw (lt-ltb stored 0o2000 l, lt-ltb (1023 + stored - 0o1777) 1023 (omega (arith, lt_of_le-ne (omega arith) n))) (omega arith)

pub exponent-unpacked : (x : ℕ) → x < 2 ^ 60 → is_indefinite x ≡ false → exponent_of x ≡ exponent_in18 (number_in x).biased
unfolding exponent_of number_in
exponent-unpacked x h e = stored-unpacked (stored_in x) (eqb-false (stored_in x) 0o1777 (sym (indefinite-stored x h) ∙ e))
