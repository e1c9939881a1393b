-- A record that goes into a package comes back from it, and a package without stray bits comes back from its record.
use Rattle.std.specs.Prelude.{true, false, ◌&&◌, List, ◌≡◌, eqb, length, get_or}
use Rattle.std.proofs.Common.{⊎_elim, ◌∙◌, lit<, ext_get_or}
use Rattle.std.proofs.Math.Path.{refl, sym}
use Prim.Native.Nat.{ℕ, zero, suc, ◌+◌, ◌-◌, ◌*◌, ◌/◌, ◌^◌, ◌≤◌, ◌<◌}
use Rattle.std.proofs.Math.Nat.{add-sub_cancel_left}
use native.Mathlib.Omega.{arith}
use borrow.Author.Tests.{ltb-true, eqb-true, lt-ltb, le-ltb, eq-eqb, not-false}
use Rattle.std.proofs.Math.ListN.{get_or-eq_default}
use Rattle.std.proofs.Math.Pow.{shr_mod}
use Rattle.word_arithmetic.specs.Bits.{bits}
use Rattle.word_arithmetic.specs.Laws.Bits.{bits-lt}
use Rattle.base_logic.specs.Laws.Choice.{le-or-lt}
use Rattle.base_lists.specs.Laws.Each.{of-get_d}
use Rattle.central_registers.specs.Registers.{a_of, b_of, x_of}
use Rattle.central_record.specs.declared.record.Central.{Central}
use Rattle.base_lists.specs.Indexed.{all_below, tabulate}
use Rattle.central_record.specs.Record.{em_fits, register_width, record_fits, FitsPackage}
use Rattle.exchange_package.specs.Package.{controls, package_word, coded, register_in, control_in, package_record, bits_in_use, word_has_no_stray, has_stray}
use Rattle.base_logic.specs.Laws.Tests.{both}
use Rattle.base_lists.specs.Laws.Indexed.{all-at, all_of, length-tabulate, get_d_tabulate, tabulate-of}
use Rattle.central_record.specs.Laws.Record.{each-register, em-width, a-width, b-width, x-width, of-fits}

pub control-width : (c : Central) → FitsPackage c → (n : ℕ) → get_or (controls c) n 0 < 2 ^ 18
control-width c w n =
    of-get_d (λ v. v < 2 ^ 18) (controls c) n 0
    (w.p-width, (w.ra-width, (w.fl-width, (em-width c.em w.em-fits, tt))))
    (lit< tt)

-- RA and FL of a package have 18 bits, whatever its words
pub field-width : (w : List ℕ) → ((package_record w).ra < 2 ^ 18) × ((package_record w).fl < 2 ^ 18)
unfolding package_record
field-width w = (bits-lt (get_or w 1 0) 36 18, bits-lt (get_or w 2 0) 36 18)

-- three fields of 18 bits in a word
module _ (upper a b : ℕ) (hu : upper < 2 ^ 18) (ha : a < 2 ^ 18) (hb : b < 2 ^ 18) where
  upper-field : bits (upper * 2 ^ 36 + a * 2 ^ 18 + b) 36 18 ≡ upper
  upper-field = omega arith

  middle_field : bits (upper * 2 ^ 36 + a * 2 ^ 18 + b) 18 18 ≡ a
  middle_field = omega arith

  lower-field : bits (upper * 2 ^ 36 + a * 2 ^ 18 + b) 0 18 ≡ b
  lower-field = omega arith

from_fields : (w : ℕ) → w / 2 ^ 36 * 2 ^ 36 + bits w 18 18 * 2 ^ 18 + bits w 0 18 ≡ w
from_fields w = omega arith

-- the words of a record's package
module _ (c : Central) where
  pub length-coded : length (coded c) ≡ 16
  unfolding coded
  length-coded = length-tabulate (package_word c) 16

  pub word-coded : (n : ℕ) → n < 16 → get_or (coded c) n 0 ≡ package_word c n
  unfolding coded
  word-coded n h = get_d_tabulate (package_word c) 0 16 n h

  pub lower_word : (n : ℕ) → n < 8 → get_or (coded c) n 0 ≡ get_or (controls c) n 0 * 2 ^ 36 + a_of c.registers n * 2 ^ 18 + b_of c.registers n
  unfolding package_word
  lower_word n h = word-coded n (omega arith) ∙ rw (lt-ltb n 8 h)

  pub upper-word : (n : ℕ) → n < 8 → get_or (coded c) (8 + n) 0 ≡ x_of c.registers n
  unfolding package_word
  upper-word n h = word-coded (8 + n) (omega arith) ∙ rw (le-ltb (8 + n) 8 (omega arith), add-sub_cancel_left)

-- a record that goes into a package comes back
module _ (c : Central) (w : FitsPackage c) where
  module _ (n : ℕ) (h : n < 8) where
    control-back : control_in (coded c) n ≡ get_or (controls c) n 0
    control-back =
        rw (lower_word c n h)
        (upper-field (get_or (controls c) n 0) (a_of c.registers n) (b_of c.registers n) (control-width c w n) (a-width c w n h) (b-width c w n h))

    a_back : register_in (coded c) n ≡ a_of c.registers n
    unfolding register_in
    a_back =
        rw (lt-ltb n 8 h, lower_word c n h)
        (middle_field (get_or (controls c) n 0) (a_of c.registers n) (b_of c.registers n) (control-width c w n) (a-width c w n h) (b-width c w n h))

    b-back : register_in (coded c) (8 + n) ≡ b_of c.registers n
    unfolding register_in
    b-back =
        rw (le-ltb (8 + n) 8 (omega arith), lt-ltb (8 + n) 16 (omega arith), add-sub_cancel_left, lower_word c n h)
        (lower-field (get_or (controls c) n 0) (a_of c.registers n) (b_of c.registers n) (control-width c w n) (a-width c w n h) (b-width c w n h))

    x-back : register_in (coded c) (16 + n) ≡ x_of c.registers n
    unfolding register_in
    x-back =
        let e : 16 + n - 8 ≡ 8 + n = omega arith in
        rw (le-ltb (16 + n) 8 (omega arith), le-ltb (16 + n) 16 (omega arith), e) (upper-word c n h)

  register-back : (i : ℕ) → i < 24 → register_in (coded c) i ≡ get_or c.registers i 0
  register-back = each-register (λ i. register_in (coded c) i ≡ get_or c.registers i 0) a_back b-back x-back

  registers-back : length c.registers ≡ 24 → tabulate 24 (register_in (coded c)) ≡ c.registers
  registers-back l = tabulate-of (register_in (coded c)) 0 24 c.registers l register-back

-- the record with the processor running
abbrev pub running : Central → Central
running c = record { p = c.p; ra = c.ra; fl = c.fl; em = c.em; registers = c.registers; stop = 0 }

record-path : (c d : Central)
    → c.p ≡ d.p → c.ra ≡ d.ra → c.fl ≡ d.fl → c.em ≡ d.em → c.registers ≡ d.registers → running c ≡ running d
record-path c d p ra fl em registers = λ i. record { p = p i; ra = ra i; fl = fl i; em = em i; registers = registers i; stop = 0 }

-- a record that goes into a package comes back, with the processor running
pub record-of-coded : (c : Central) → FitsPackage c → length c.registers ≡ 24 → package_record (coded c) ≡ running c
unfolding package_record
record-of-coded c w l =
    record-path (package_record (coded c)) c
    (control-back c w 0 (lit< tt))
    (control-back c w 1 (lit< tt))
    (control-back c w 2 (lit< tt))
    (control-back c w 3 (lit< tt))
    (registers-back c w l)

-- what the test for stray bits says of each word
pub record NoStray (w : List ℕ) : Type 0 where
  pub word_width : (n : ℕ) → n < 8 → get_or w n 0 < 2 ^ bits_in_use n
  pub b0-zero : bits (get_or w 0 0) 0 18 ≡ 0
  pub em-fits : em_fits (control_in w 3) ≡ true

pub no_stray : (w : List ℕ) → has_stray w ≡ false → NoStray w
unfolding has_stray
no_stray w h =
    let h₂ = both (all_below 8 (word_has_no_stray w) && eqb (bits (get_or w 0 0) 0 18) 0) (em_fits (control_in w 3)) (not-false _ h) in
    let h₁ = both (all_below 8 (word_has_no_stray w)) (eqb (bits (get_or w 0 0) 0 18) 0) h₂.0 in
    record {
      word_width = λ n l. ltb-true (get_or w n 0) (2 ^ bits_in_use n) (all-at (word_has_no_stray w) 8 h₁.0 n l);
      b0-zero = eqb-true (bits (get_or w 0 0) 0 18) 0 h₁.1;
      em-fits = h₂.1;
    }

pub of-no-stray : (w : List ℕ) → NoStray w → has_stray w ≡ false
unfolding has_stray
of-no-stray w k =
    rw (
      all_of (word_has_no_stray w) 8 (λ n l. lt-ltb (get_or w n 0) (2 ^ bits_in_use n) (k.word_width n l)),
      eq-eqb (bits (get_or w 0 0) 0 18) 0 k.b0-zero,
      k.em-fits,
    )

-- the registers of a package's record
module _ (w : List ℕ) where
  pub count-of-package : length (package_record w).registers ≡ 24
  unfolding package_record
  count-of-package = length-tabulate (register_in w) 24

  pub stop-of-package : (package_record w).stop ≡ 0
  unfolding package_record
  stop-of-package = refl

  pub register-of-package : (i : ℕ) → i < 24 → get_or (package_record w).registers i 0 ≡ register_in w i
  unfolding package_record
  register-of-package i h = get_d_tabulate (register_in w) 0 24 i h

  module _ (n : ℕ) (h : n < 8) where
    pub a-of-package : a_of (package_record w).registers n ≡ bits (get_or w n 0) 18 18
    unfolding register_in
    a-of-package = register-of-package n (omega arith) ∙ rw (lt-ltb n 8 h)

    pub b-of-package : b_of (package_record w).registers n ≡ bits (get_or w n 0) 0 18
    unfolding register_in
    b-of-package =
        register-of-package (8 + n) (omega arith)
        ∙ rw (le-ltb (8 + n) 8 (omega arith), lt-ltb (8 + n) 16 (omega arith), add-sub_cancel_left)

    pub x-of-package : x_of (package_record w).registers n ≡ get_or w (8 + n) 0
    unfolding register_in
    x-of-package =
        let e : 16 + n - 8 ≡ 8 + n = omega arith in
        register-of-package (16 + n) (omega arith) ∙ rw (le-ltb (16 + n) 8 (omega arith), le-ltb (16 + n) 16 (omega arith), e)

-- a package without stray bits comes back from its record
module _ (w : List ℕ) (k : NoStray w) where
  word_lt : (n : ℕ) → n < 4 → get_or w n 0 < 2 ^ 54
  word_lt n h = rw (lt-ltb n 4 h) at (k.word_width n (omega arith))

  above_zero : (n : ℕ) → 4 ≤ n → n < 8 → get_or w n 0 / 2 ^ 36 ≡ 0
  above_zero n l h = let b = rw (le-ltb n 4 l) at (k.word_width n h) in omega arith

  control-of-package : (n : ℕ) → n < 8 → get_or (controls (package_record w)) n 0 ≡ get_or w n 0 / 2 ^ 36
  unfolding package_record
  control-of-package zero h = shr_mod 18 36 (word_lt 0 (lit< tt))
  control-of-package (suc zero) h = shr_mod 18 36 (word_lt 1 (lit< tt))
  control-of-package (suc (suc zero)) h = shr_mod 18 36 (word_lt 2 (lit< tt))
  control-of-package (suc (suc (suc zero))) h = shr_mod 18 36 (word_lt 3 (lit< tt))
  control-of-package (suc (suc (suc (suc n)))) h = sym (above_zero (suc (suc (suc (suc n)))) (omega arith) h)

  word_back : (n : ℕ) → n < 16 → get_or (coded (package_record w)) n 0 ≡ get_or w n 0
  word_back n h =
      ⊎_elim
      (λ g. let e : n ≡ 8 + (n - 8) = omega arith in rw e (upper-word (package_record w) (n - 8) (omega arith) ∙ x-of-package w (n - 8) (omega arith)))
      (λ g. rw (lower_word (package_record w) n g, control-of-package n g, a-of-package w n g, b-of-package w n g) (from_fields (get_or w n 0)))
      (le-or-lt 8 n)

pub coded-of-record : (w : List ℕ) → length w ≡ 16 → has_stray w ≡ false → coded (package_record w) ≡ w
coded-of-record w l h =
    let long = length-coded (package_record w) in
    ext_get_or 0 (coded (package_record w)) w (long ∙ sym l) (λ n b. word_back w (no_stray w h) n (omega arith))

-- the record of a package without stray bits has its widths
module _ (w : List ℕ) (k : NoStray w) (words : (i : ℕ) → get_or w i 0 < 2 ^ 60) where
  register-lt : (i : ℕ) → i < 24 → get_or (package_record w).registers i 0 < 2 ^ register_width i
  register-lt =
      each-register (λ i. get_or (package_record w).registers i 0 < 2 ^ register_width i)
      (λ n h. rw (lt-ltb n 16 (omega arith), a-of-package w n h) (bits-lt (get_or w n 0) 18 18))
      (λ n h. rw (lt-ltb (8 + n) 16 (omega arith), b-of-package w n h) (bits-lt (get_or w n 0) 0 18))
      (λ n h. rw (le-ltb (16 + n) 16 (omega arith), x-of-package w n h) (words (8 + n)))

  pub record-fits-package : FitsPackage (package_record w)
  unfolding package_record
  record-fits-package =
      record {
        p-width = bits-lt (get_or w 0 0) 36 18;
        ra-width = bits-lt (get_or w 1 0) 36 18;
        fl-width = bits-lt (get_or w 2 0) 36 18;
        em-fits = k.em-fits;
        register-width = register-lt;
        b0-zero = b-of-package w 0 (lit< tt) ∙ k.b0-zero;
      }

  -- and passes number 5 where its field ends in memory
  pub package-record-fits : (n : ℕ) → (package_record w).ra + (package_record w).fl ≤ n → record_fits n (package_record w) ≡ true
  package-record-fits n h = of-fits n (package_record w) (record { fits-package = record-fits-package; field = h; stop = rw (stop-of-package w) })

-- the package of a record that fits has no stray bits, and words of 60 bits
module _ (c : Central) (w : FitsPackage c) where
  lower-lt : (n : ℕ) → n < 8 → get_or (coded c) n 0 < 2 ^ bits_in_use n
  lower-lt n h =
      ⊎_elim
      (λ g. rw (le-ltb n 4 g, lower_word c n h, get_or-eq_default (controls c) 0 g) (omega (arith, a-width c w n h, b-width c w n h)))
      (λ g. rw (lt-ltb n 4 g, lower_word c n h) (omega (arith, control-width c w n, a-width c w n h, b-width c w n h)))
      (le-or-lt 4 n)

  pub coded-no-stray : has_stray (coded c) ≡ false
  coded-no-stray =
      of-no-stray (coded c)
      (record {
        word_width = lower-lt;
        b0-zero = sym (b-of-package (coded c) 0 (lit< tt)) ∙ register-of-package (coded c) 8 (lit< tt) ∙ b-back c w 0 (lit< tt) ∙ w.b0-zero;
        em-fits = rw (control-back c w 3 (lit< tt)) w.em-fits;
      })

  pub coded-lt : (n : ℕ) → get_or (coded c) n 0 < 2 ^ 60
  coded-lt n =
      ⊎_elim
      (λ g. ⊎_elim
      (λ j. rw (get_or-eq_default (coded c) 0 {n = n} (omega (arith, length-coded c))) (lit< tt))
      (λ j. let e : n ≡ 8 + (n - 8) = omega arith in rw e (rw (upper-word c (n - 8) (omega arith)) (x-width c w (n - 8) (omega arith))))
      (le-or-lt 16 n))
      (λ g. rw (lower_word c n g) (omega (arith, control-width c w n, a-width c w n g, b-width c w n g)))
      (le-or-lt 8 n)
