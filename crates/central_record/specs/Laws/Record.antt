-- What the tests of a record and of a memory say of each value.
use Rattle.std.specs.Prelude.{true, ◌&&◌, List, ◌≡◌, ℕ, suc, ◌+◌, ◌-◌, ◌*◌, ◌^◌, ◌≤◌, ◌<◌, ltb, leb, eqb, length, get_or}
use Rattle.std.proofs.Common.{⊎_elim, subst, arith, ltb-true, leb-true, eqb-true, lt-ltb, le-ltb, le-leb, eq-eqb, lit<}
use Rattle.std.proofs.Math.Dec.{leb-suc-suc}
use Rattle.std.proofs.Math.ListN.{get_or-eq_default}
use Rattle.word_arithmetic.specs.Bits.{bits}
use Rattle.base_logic.specs.Laws.Choice.{le-or-lt}
use Rattle.base_outcome.specs.Numbers.{central_stop_listed}
use Rattle.central_registers.specs.Registers.{a_of, b_of, x_of}
use Rattle.central_record.specs.declared.record.Central.{Central}
use Rattle.base_lists.specs.Indexed.{all_below}
use Rattle.central_record.specs.Record.{em_fits, register_width, register_fits, registers_fit, record_fits, FitsPackage, below, words_fit}
use Rattle.base_logic.specs.Laws.Tests.{both}
use Rattle.base_lists.specs.Laws.Indexed.{all-at, all_of}

-- what holds of the places of A, of B and of X holds of each of the 24 places
pub each-register : (P : ℕ → Type 0)
    → ((n : ℕ) → n < 8 → P n) → ((n : ℕ) → n < 8 → P (8 + n)) → ((n : ℕ) → n < 8 → P (16 + n))
    → (i : ℕ) → i < 24 → P i
each-register P a b x i h =
    ⊎_elim
    (λ g. let e : 16 + (i - 16) ≡ i = omega arith in subst P e (x (i - 16) (omega arith)))
    (λ g. ⊎_elim
    (λ j. let e : 8 + (i - 8) ≡ i = omega arith in subst P e (b (i - 8) (omega arith)))
    (λ j. a i j)
    (le-or-lt 8 i))
    (le-or-lt 16 i)

pub em-bits : (em : ℕ) → em_fits em ≡ true → em ≡ bits em 12 3 * 2 ^ 12
unfolding em_fits
em-bits em h = eqb-true em (bits em 12 3 * 2 ^ 12) h

pub em-width : (em : ℕ) → em_fits em ≡ true → em < 2 ^ 18
em-width em h = omega (arith, em-bits em h)

module _ (c : Central) (w : FitsPackage c) where
  pub a-width : (n : ℕ) → n < 8 → a_of c.registers n < 2 ^ 18
  a-width n h = rw (lt-ltb n 16 (omega arith)) at (w.register-width n (omega arith))

  pub b-width : (n : ℕ) → n < 8 → b_of c.registers n < 2 ^ 18
  b-width n h = rw (lt-ltb (8 + n) 16 (omega arith)) at (w.register-width (8 + n) (omega arith))

  pub x-width : (n : ℕ) → n < 8 → x_of c.registers n < 2 ^ 60
  x-width n h = rw (le-ltb (16 + n) 16 (omega arith)) at (w.register-width (16 + n) (omega arith))

-- what number 5 lets by
pub record RecordFits (n : ℕ) (c : Central) : Type 0 where
  pub fits-package : FitsPackage c
  pub field : c.ra + c.fl ≤ n
  pub stop : central_stop_listed c.stop ≡ true

pub fits : (n : ℕ) (c : Central) → record_fits n c ≡ true → RecordFits n c
unfolding record_fits registers_fit
fits n c h =
    let h₇ = both _ (registers_fit c.registers) h in
    let h₆ = both _ (em_fits c.em) h₇.0 in
    let h₅ = both _ (eqb (b_of c.registers 0) 0) h₆.0 in
    let h₄ = both _ (central_stop_listed c.stop) h₅.0 in
    let h₃ = both _ (leb (c.ra + c.fl) n) h₄.0 in
    let h₂ = both (ltb c.p (2 ^ 18) && ltb c.ra (2 ^ 18)) (ltb c.fl (2 ^ 18)) h₃.0 in
    let h₁ = both (ltb c.p (2 ^ 18)) (ltb c.ra (2 ^ 18)) h₂.0 in
    record {
      fits-package =
          record {
            p-width = ltb-true c.p (2 ^ 18) h₁.0;
            ra-width = ltb-true c.ra (2 ^ 18) h₁.1;
            fl-width = ltb-true c.fl (2 ^ 18) h₂.1;
            em-fits = h₆.1;
            register-width =
                λ i l. ltb-true (get_or c.registers i 0) (2 ^ register_width i) (all-at (register_fits c.registers) 24 h₇.1 i l);
            b0-zero = eqb-true (b_of c.registers 0) 0 h₅.1;
          };
      field = leb-true (c.ra + c.fl) n h₃.1;
      stop = h₄.1;
    }

pub of-fits : (n : ℕ) (c : Central) → RecordFits n c → record_fits n c ≡ true
unfolding record_fits registers_fit
of-fits n c f =
    let w = f.fits-package in
    rw (
      lt-ltb c.p (2 ^ 18) w.p-width,
      lt-ltb c.ra (2 ^ 18) w.ra-width,
      lt-ltb c.fl (2 ^ 18) w.fl-width,
      le-leb (c.ra + c.fl) n f.field,
      f.stop,
      eq-eqb (b_of c.registers 0) 0 w.b0-zero,
      w.em-fits,
    )
    (all_of (register_fits c.registers) 24 (λ i l. lt-ltb (get_or c.registers i 0) (2 ^ register_width i) (w.register-width i l)))

-- where every entry is below B, so is 0 past the end
module _ (B : ℕ) (m : List ℕ) where
  pub all-below : 0 < B → all_below (length m) (below B m) ≡ true → (i : ℕ) → get_or m i 0 < B
  all-below z h i =
      ⊎_elim
      (λ l. rw (get_or-eq_default m 0 {n = i} l) z)
      (λ l. ltb-true (get_or m i 0) B (all-at (below B m) (length m) h i l))
      (le-or-lt (length m) i)

  pub of-all-below : ((i : ℕ) → get_or m i 0 < B) → all_below (length m) (below B m) ≡ true
  of-all-below h = all_of (below B m) (length m) (λ i l. lt-ltb (get_or m i 0) B (h i))

-- below the next number is at most the number
pub below_suc : (n : ℕ) (m : List ℕ) → all_below (length m) (below (suc n) m) ≡ all_below (length m) (λ i. leb (get_or m i 0) n)
below_suc n m = λ j. all_below (length m) (λ i. leb-suc-suc (get_or m i 0) n j)

pub word_width : (m : List ℕ) → words_fit m ≡ true → (i : ℕ) → get_or m i 0 < 2 ^ 60
unfolding words_fit
word_width m h = all-below (2 ^ 60) m (lit< tt) h

pub of-word-width : (m : List ℕ) → ((i : ℕ) → get_or m i 0 < 2 ^ 60) → words_fit m ≡ true
unfolding words_fit
of-word-width m h = of-all-below (2 ^ 60) m h
