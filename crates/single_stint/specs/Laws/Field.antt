-- Turns on a field leave what the host lends as it may be lent, and change no word outside the field.
use Rattle.std.specs.Prelude.{List, ◌⊎◌, ◌≡◌, ℕ, ◌+◌, ◌^◌, ◌≤◌, ◌<◌, length, get_or}
use Rattle.std.proofs.Common.{⊎_elim, ◌∙◌, arith, lt-ltb, le-ltb, lit<}
use Rattle.std.proofs.Math.Path.{sym, ap}
use Rattle.std.proofs.Math.ListN.{get_or-eq_default}
use Rattle.base_logic.specs.Laws.Choice.{le-or-lt}
use Rattle.central_registers.specs.Widths.{Wide}
use Rattle.central_apply.specs.State.{state}
use Rattle.central_turn.specs.Turn.{Run}
use Rattle.central_apply.specs.Widths.{StateKept}
use Rattle.central_turn.specs.Laws.Run.{RunKept, run-left}
use Rattle.base_lists.specs.Parts.{part}
use Rattle.central_record.specs.Record.{FitsPackage, register_width}
use Rattle.base_lists.specs.Laws.Parts.{length_part, part-lt, part-splice, length-splice, splice-lt, word_below, word-above}
use Rattle.central_record.specs.Laws.Record.{RecordFits, fits, of-fits, word_width, of-word-width}
use Rattle.exchange_jump.specs.Accepted.{HostAccepted}
use Rattle.central_record.specs.declared.record.Central.{Central}
use Rattle.single_stint.specs.Field.{bounds_of, record_after, field_run, ran_on}

-- registers as the central processor asks for them, from a record and back
module _ (c : Central) (w : FitsPackage c) (count : length c.registers ≡ 24) where
  short : (i : ℕ) → i < 16 → get_or c.registers i 0 < 2 ^ 18
  short i h = rw (lt-ltb i 16 h) at (w.register-width i (omega arith))

  long : (i : ℕ) → get_or c.registers i 0 < 2 ^ 60
  long i =
      ⊎_elim (λ h. rw (get_or-eq_default c.registers 0 {n = i} (omega arith)) (lit< tt))
      (λ h. ⊎_elim (λ k. rw (le-ltb i 16 k) at (w.register-width i h)) (λ k. omega (arith, short i k)) (le-or-lt 16 i))
      (le-or-lt 24 i)

  pub registers-wide : Wide c.registers
  registers-wide = record { count = count; short = short; long = long; b0 = w.b0-zero }

pub register-width : (r : List ℕ) → Wide r → (i : ℕ) → get_or r i 0 < 2 ^ register_width i
register-width r w i =
    ⊎_elim (λ h. rw (le-ltb i 16 h) (w.long i)) (λ h. rw (lt-ltb i 16 h) (w.short i h)) (le-or-lt 16 i)

-- the record after turns goes into a package, as the record before them did
pub after-fits-package : (c : Central) → FitsPackage c → (n : ℕ) (o : Run) → RunKept n o → FitsPackage (record_after c o)
after-fits-package c w n o left =
    record {
      p-width = left.p;
      ra-width = w.ra-width;
      fl-width = w.fl-width;
      em-fits = w.em-fits;
      register-width = λ i h. register-width _ left.kept.wide i;
      b0-zero = left.kept.wide.b0;
    }

-- a memory and a record as the host may lend them
module _ (m : List ℕ) (c : Central) (l : HostAccepted m c) where
  fitting : RecordFits (length m) c
  fitting = fits (length m) c l.fits

  pub field-inside : c.ra + c.fl ≤ length m
  field-inside = fitting.field

  pub field_room : c.ra + c.fl ≤ 131072
  field_room = omega (arith, field-inside, l.at_most)

  pub p-short : c.p < 2 ^ 18
  p-short = fitting.fits-package.p-width

-- turns on them
module _ (m : List ℕ) (c : Central) (l : HostAccepted m c) (count : length c.registers ≡ 24) where
  room : c.ra + c.fl ≤ length m
  room = field-inside m c l

  pub field-kept : StateKept c.fl (state c.registers (part m c.ra c.fl))
  field-kept =
      record {
        wide = registers-wide c (fitting m c l).fits-package count;
        words = record { word = part-lt m c.ra c.fl (2 ^ 60) (word_width m l.words) };
        size = length_part m c.ra c.fl room;
      }

  pub ran-left : (n : ℕ) → RunKept c.fl (field_run m c n)
  ran-left n = run-left c.fl (bounds_of c) (omega (arith, field_room m c l)) n c.p _ (fitting m c l).fits-package.p-width field-kept

  pub ran-length : (n : ℕ) → length (ran_on m c n).memory ≡ length m
  unfolding ran_on
  ran-length n = length-splice m c.ra c.fl (field_run m c n).state.field room (ran-left n).kept.size

  pub ran-fits-package : (n : ℕ) → FitsPackage (ran_on m c n).end.central
  unfolding ran_on
  ran-fits-package n = after-fits-package c (fitting m c l).fits-package c.fl (field_run m c n) (ran-left n)

  -- widths, lengths, RA, FL, EM and B0 are kept: what is handed back may be lent again
  pub ran-accepted : (n : ℕ) → HostAccepted (ran_on m c n).memory (ran_on m c n).end.central
  unfolding ran_on
  ran-accepted n =
      let size = ran-length n in
      record {
        nonempty = omega (arith, l.nonempty, size);
        at_most = omega (arith, l.at_most, size);
        words =
            of-word-width (ran_on m c n).memory
            (splice-lt m c.ra c.fl (field_run m c n).state.field room (ran-left n).kept.size (2 ^ 60) (word_width m l.words) (ran-left n).kept.words.word);
        fits = of-fits (length (ran_on m c n).memory) (ran_on m c n).end.central (record { fits-package = ran-fits-package n; field = omega (arith, room, size); stop = (ran-left n).stop });
      }

  -- no word outside the field changes
  pub ran-below : (n i : ℕ) → i < c.ra → get_or (ran_on m c n).memory i 0 ≡ get_or m i 0
  unfolding ran_on
  ran-below n = word_below m c.ra c.fl (field_run m c n).state.field room (ran-left n).kept.size

  pub ran-above : (n i : ℕ) → c.ra + c.fl ≤ i → get_or (ran_on m c n).memory i 0 ≡ get_or m i 0
  unfolding ran_on
  ran-above n = word-above m c.ra c.fl (field_run m c n).state.field room (ran-left n).kept.size

-- turns depend on the record and its field alone: in another memory with the same field they end alike
module _ (m m' : List ℕ) (c : Central) (alike : part m c.ra c.fl ≡ part m' c.ra c.fl) where
  same-run : (n : ℕ) → field_run m c n ≡ field_run m' c n
  same-run n = rw alike

  pub ran-alike : (n : ℕ) → (ran_on m c n).end ≡ (ran_on m' c n).end
  unfolding ran_on
  ran-alike n = rw (same-run n)

  pub field_alike : HostAccepted m c → HostAccepted m' c → length c.registers ≡ 24
      → (n : ℕ) → part (ran_on m c n).memory c.ra c.fl ≡ part (ran_on m' c n).memory c.ra c.fl
  unfolding ran_on
  field_alike l l' count n =
      part-splice m c.ra c.fl (field_run m c n).state.field (field-inside m c l) (ran-left m c l count n).kept.size
      ∙ ap (λ (o : Run). o.state.field) (same-run n)
      ∙ sym (part-splice m' c.ra c.fl (field_run m' c n).state.field (field-inside m' c l') (ran-left m' c l' count n).kept.size)
