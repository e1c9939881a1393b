-- A half of a product within the limits, complemented where it is not all zeros.
use Rattle.std.specs.Prelude.{Bool, true, ◌≡◌, refl, ℕ, ◌+◌, ◌-◌, ◌*◌, ◌^◌, ◌≤◌, ◌<◌, eqb, pos}
use Rattle.std.proofs.Math.Bool.{false, and-true, and-false}
use Rattle.std.proofs.Common.{sym, ◌∙◌, subst, zero-mul, arith, lit<}
use Rattle.std.proofs.Math.Path.{ap}
use borrow.Author.Tests.{eqb-true, eqb-false, eq-eqb, ne_eqb}
use Rattle.word_arithmetic.specs.Sums.{magnitude}
use Rattle.floating_word.specs.Special.{is_indefinite, signed}
use Rattle.floating_word.specs.Number.{number_with, biased_from, number_in, word_of}
use Rattle.floating_word.specs.Finite.{FiniteWord}
use Rattle.floating_word.specs.Laws.Number.{within-not-indefinite, within-finite, within-number, word-signed}
use Rattle.floating_product.specs.Products.{is_complemented}
use Rattle.floating_product.specs.Rebuilt.{whole_with, scaled_value}
use Rattle.floating_word.specs.declared.number.Number.{Number}
use Rattle.floating_product.specs.Laws.Wholes.{whole-zero}

-- the word of all zeros
pub zeros-scaled : scaled_value 0 ≡ pos 0
unfolding number_in biased_from magnitude
zeros-scaled = refl

zeros-size : (number_in 0).size ≡ 0
unfolding number_in magnitude
zeros-size = refl

pub zeros-finite : FiniteWord 0
zeros-finite = record { width = lit< tt; not_infinite = refl; not-indefinite = refl }

-- a half within the limits, complemented where it is not all zeros
module _ (differ : Bool) (biased fall size : ℕ) (f : fall ≤ biased) (l : biased - fall ≤ 1022 + 1023) (h : size < 2 ^ 48) where
  abbrev plain : ℕ
  plain = word_of false biased fall size

  abbrev result : ℕ
  result = signed (is_complemented differ plain) plain

  definite : is_indefinite plain ≡ false
  definite = within-not-indefinite false biased fall size f l h

  zeros-result : plain ≡ 0 → result ≡ 0
  unfolding signed
  zeros-result e =
      let c : is_complemented differ plain ≡ false = rw (definite, eq-eqb plain 0 e) (and-false differ) in
      ap (λ (c : Bool). signed c plain) c ∙ e

  pub signed-result : (plain ≡ 0 → ⊥) → result ≡ word_of differ biased fall size
  signed-result n =
      let c : is_complemented differ plain ≡ differ = rw (definite, ne_eqb plain 0 n) (and-true differ) in
      ap (λ (c : Bool). signed c plain) c ∙ word-signed differ biased fall size f l h

  zeros-of-size : plain ≡ 0 → size ≡ 0
  zeros-of-size e =
      sym (ap (λ (n : Number). n.size) (within-number false biased fall size f l h)) ∙ ap (λ (w : ℕ). (number_in w).size) e ∙ zeros-size

  -- of a size that is not zero it holds sign, size and exponent
  pub result-number : 0 < size → number_in result ≡ number_with differ size (biased - fall)
  result-number p =
      ap number_in (signed-result (λ e. omega (arith, zeros-of-size e))) ∙ within-number differ biased fall size f l h

  -- it is finite, and its value is that of its size at its exponent, with the sign
  abbrev Held : ℕ → Type 0
  Held w = FiniteWord w × (scaled_value w ≡ whole_with differ (size * 2 ^ (biased - fall)))

  held-zeros : plain ≡ 0 → Held 0
  held-zeros e =
      let v : whole_with differ (size * 2 ^ (biased - fall)) ≡ pos 0
      = ap (λ (k : ℕ). whole_with differ (k * 2 ^ (biased - fall))) (zeros-of-size e)
      ∙ ap (whole_with differ) (zero-mul (2 ^ (biased - fall)))
      ∙ whole-zero differ
      in
      (zeros-finite, zeros-scaled ∙ sym v)

  held-signed : Held (word_of differ biased fall size)
  held-signed = (
    within-finite differ biased fall size f l h,
    ap (λ (n : Number). whole_with n.minus (n.size * 2 ^ n.biased)) (within-number differ biased fall size f l h),
  )

  pub half-held : Held result
  half-held = by-test (eqb plain 0) refl
    where
      by-test : (t : Bool) → eqb plain 0 ≡ t → Held result
      by-test true e = subst Held (sym (zeros-result (eqb-true plain 0 e))) (held-zeros (eqb-true plain 0 e))
      by-test false e = subst Held (sym (signed-result (eqb-false plain 0 e))) held-signed
