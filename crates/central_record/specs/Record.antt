-- The central record and the memory that the host lends, by document 01, "Memory and records" and "Who can be turned down".
use Rattle.std.specs.Prelude.{ℕ, ◌+◌, ◌*◌, ◌^◌, ◌<◌, Bool, true, ◌&&◌, cond, List, ◌≡◌, ltb, leb, eqb, length, get_or, Ok, Err}
use Rattle.word_arithmetic.specs.Bits.{bits}
use Rattle.base_outcome.specs.Numbers.{central_stop_listed}
use Rattle.base_outcome.specs.declared.refusal.Refusal.TheVariants as Refusal
use Rattle.base_outcome.specs.Verdict.{Verdict}
use Rattle.central_registers.specs.Registers.{b_of}
use Rattle.central_record.specs.declared.record.Central.{Central}
use Rattle.base_lists.specs.Indexed.{all_below}

-- "EM has the bits 010000 (address), 020000 and 040000": bits 12 to 14, and no other
unfoldable pub em_fits : ℕ → Bool
em_fits em = eqb em (bits em 12 3 * 2 ^ 12)

-- A and B registers, which are the first 16 of the 24, "have 18 bits, X registers 60"
abbrev pub register_width : ℕ → ℕ
register_width i = cond (ltb i 16) 18 60

abbrev pub register_fits : List ℕ → ℕ → Bool
register_fits registers i = ltb (get_or registers i 0) (2 ^ register_width i)

unfoldable pub registers_fit : List ℕ → Bool
registers_fit registers = all_below 24 (register_fits registers)

-- 5 "record value over its width, a stop not listed for that processor, stray EM bit, nonzero B0, or RA + FL past the memory":
-- none of these. P, RA and FL have 18 bits.
unfoldable pub record_fits : ℕ → Central → Bool
record_fits words c =
    ltb c.p (2 ^ 18)
    && ltb c.ra (2 ^ 18)
    && ltb c.fl (2 ^ 18)
    && leb (c.ra + c.fl) words
    && central_stop_listed c.stop
    && eqb (b_of c.registers 0) 0
    && em_fits c.em
    && registers_fit c.registers

-- the same without the stop and the length of memory: what is asked of a record that goes into a package
pub record FitsPackage (c : Central) : Type 0 where
  pub p-width : c.p < 2 ^ 18
  pub ra-width : c.ra < 2 ^ 18
  pub fl-width : c.fl < 2 ^ 18
  pub em-fits : em_fits c.em ≡ true
  pub register-width : (i : ℕ) → i < 24 → get_or c.registers i 0 < 2 ^ register_width i
  pub b0-zero : b_of c.registers 0 ≡ 0

-- "1 to 131,072 lent words"
abbrev pub length_fits : ℕ → Bool
length_fits n = leb 1 n && leb n 131072

-- the entry at i is below a limit
abbrev pub below : ℕ → List ℕ → ℕ → Bool
below limit m i = ltb (get_or m i 0) limit

-- "words of 60 bits"
unfoldable pub words_fit : List ℕ → Bool
words_fit m = all_below (length m) (below (2 ^ 60) m)

-- "1 central length", "3 central word over 60 bits", 5, lowest first
unfoldable pub host_verdict : List ℕ → Central → Verdict
host_verdict m c =
    cond (length_fits (length m))
    (cond (words_fit m)
    (cond (record_fits (length m) c) (Ok tt) (Err Refusal.RecordValue))
    (Err Refusal.CentralWord))
    (Err Refusal.CentralLength)
