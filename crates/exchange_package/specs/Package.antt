-- The exchange package, by document 01, "Memory and records": "A package is 16 words."
use Rattle.std.specs.Prelude.{ℕ, ◌+◌, ◌-◌, ◌*◌, ◌^◌, Bool, not, ◌&&◌, cond, List, [], ◌∷◌, ltb, eqb, get_or}
use Rattle.word_arithmetic.specs.Bits.{bits}
use Rattle.central_registers.specs.Registers.{a_of, b_of, x_of}
use Rattle.central_record.specs.declared.record.Central.{Central}
use Rattle.base_lists.specs.Indexed.{all_below, tabulate}
use Rattle.central_record.specs.Record.{em_fits}

-- "Bits 53 to 36 of words 0 to 3 hold P, RA, FL, EM."
abbrev pub controls : Central → List ℕ
controls c = c.p ∷ c.ra ∷ c.fl ∷ c.em ∷ []

-- "Word n, for 0 to 7, holds An in bits 35 to 18 and Bn in bits 17 to 0; words 8 to 15 hold X0 to X7."
unfoldable pub package_word : Central → ℕ → ℕ
package_word c n = cond (ltb n 8) (get_or (controls c) n 0 * 2 ^ 36 + a_of c.registers n * 2 ^ 18 + b_of c.registers n) (x_of c.registers (n - 8))

-- the package of a record
unfoldable pub coded : Central → List ℕ
coded c = tabulate 16 (package_word c)

-- the register that has place i in a record, from the words of a package: A0 to A7, B0 to B7, X0 to X7
unfoldable pub register_in : List ℕ → ℕ → ℕ
register_in w i =
    cond (ltb i 8) (bits (get_or w i 0) 18 18) (cond (ltb i 16) (bits (get_or w (i - 8) 0) 0 18) (get_or w (i - 8) 0))

-- P, RA, FL or EM in word n
abbrev pub control_in : List ℕ → ℕ → ℕ
control_in w n = bits (get_or w n 0) 36 18

-- the record of a package, with the processor running
unfoldable pub package_record : List ℕ → Central
package_record w =
    record {
      p = control_in w 0;
      ra = control_in w 1;
      fl = control_in w 2;
      em = control_in w 3;
      registers = tabulate 24 (register_in w);
      stop = 0;
    }

-- how many bits of word n are in use: up to P, RA, FL and EM in words 0 to 3, up to A in words 4 to 7
abbrev pub bits_in_use : ℕ → ℕ
bits_in_use n = cond (ltb n 4) 54 36

-- no bit above those is set
abbrev pub word_has_no_stray : List ℕ → ℕ → Bool
word_has_no_stray w n = ltb (get_or w n 0) (2 ^ bits_in_use n)

-- "All other bits, B0's included, are stray and must be zero."
unfoldable pub has_stray : List ℕ → Bool
has_stray w = not (all_below 8 (word_has_no_stray w) && eqb (bits (get_or w 0 0) 0 18) 0 && em_fits (control_in w 3))
