-- What the functions of a tracker leave, as their proofs use it.
use Rattle.std.specs.Prelude.{Option, Some, None}
use Rattle.std.specs.Prelude.{Some, None, true, false, List, [], ◌∷◌, ◌≡◌, refl, eqb, ltb, drop, Ok}
use Rattle.std.proofs.Common.{sym, ◌∙◌, add-one, drop-cons}
use Rattle.std.proofs.Math.Path.{ap, subst}
use Prim.Native.Nat.{ℕ, suc, ◌+◌, ◌-◌, ◌^◌, ◌≤◌, ◌<◌}
use native.Mathlib.Omega.{arith}
use borrow.Author.Tests.{eq-eqb, ne_eqb, lt-ltb, le-ltb, ltb-true}
use Rattle.std.proofs.Math.ListN.{length, get_or, drop_of_length-le}
use Rattle.base_outcome.specs.Laws.Verdict.{both-accept, by-test}
use Rattle.base_logic.specs.Laws.Choice.{of-cond}
use Rattle.console_line.specs.Form.{line_of}
use Rattle.console_line.specs.declared.form.Line.{Line}
use Rattle.console_grammar.specs.Held.{Lists}
use Rattle.console_reader.specs.Fed.{ReaderReady}
use Rattle.console_reader.specs.Laws.Feeding.{bytes-held}
use Rattle.console_reader.specs.Laws.Verdict.{accepted-reader, ready-accepted}
use Rattle.console_reader.specs.Reader.{ReaderState, reader_state, byte_fed, bytes_fed, reader_verdict}
use Rattle.console_reader.specs.declared.reader.Reader.{Reader}
use Rattle.console_unreadable.specs.Rule.{rule_of}
use Rattle.console_unreadable.specs.Tracker.{TrackerState, tracker_state, tracker_at, reader_in, is_unreadable, begun_in, line_ended, byte_followed, byte_by, byte_tracked, bytes_tracked, tracker_verdict, TrackerReady}
use Rattle.console_unreadable.specs.declared.rule.Rule.{Rule}
use Rattle.console_unreadable.specs.Unreadable.{Found, line_at}
use Rattle.console_unreadable.specs.declared.tracker.Tracker.{Tracker}

-- ---- one byte

module _ {r' : Reader} {m' : List ℕ} {l' : Lists} (s : ReaderState) (n : ℕ) where
  -- the line feed, of a line that makes the input unreadable, and of another
  module _ (fed : reader_state r' m' l' ≡ bytes_fed s (10 ∷ [])) where
    ended_by : {x : TrackerState} → x ≡ line_ended s (reader_state r' m' l') n → x ≡ line_ended s (byte_fed s 10) n
    unfolding bytes_fed
    ended_by e = e ∙ ap (λ (after : ReaderState). line_ended s after n) fed

    pub line-found : {said : Option Line} {rule : Rule} → said ≡ line_of (begun_in s) → rule ≡ rule_of s.reader.progress.part said
        → is_unreadable r'.progress.part ≡ true
        → tracker_at (reader_state r' m' l') n (Some (line_at n rule)) ≡ line_ended s (byte_fed s 10) n
    line-found e f test = ended_by (rw (test, f, e))

    pub line-passed : is_unreadable r'.progress.part ≡ false → tracker_at (reader_state r' m' l') (n + 1) None ≡ line_ended s (byte_fed s 10) n
    line-passed test = ended_by (rw test)

  pub followed-byte : (byte : ℕ) → (byte ≡ 10 → ⊥) → reader_state r' m' l' ≡ bytes_fed s (byte ∷ [])
      → tracker_at (reader_state r' m' l') n None ≡ byte_followed s n byte
  unfolding byte_followed bytes_fed
  followed-byte byte e fed = rw (ne_eqb byte 10 e) (ap (λ (after : ReaderState). tracker_at after n None) fed)

pub followed-line-feed : {x : TrackerState} (s : ReaderState) (n byte : ℕ) → byte ≡ 10 → x ≡ line_ended s (byte_fed s 10) n → x ≡ byte_followed s n byte
unfolding byte_followed
followed-line-feed s n byte e f = rw (eq-eqb byte 10 e) f

-- ---- the loop over the bytes

-- what stays of a tracker's room after a byte
abbrev ReadyIn : TrackerState → ℕ → Type 0
ReadyIn s n = TrackerReady s.tracker s.memory s.lists n

ready-reader : (s : ReaderState) (byte : ℕ) → ReaderReady s.reader s.memory s.lists
    → ReaderReady (byte_fed s byte).reader (byte_fed s byte).memory (byte_fed s byte).lists
unfolding bytes_fed
ready-reader s byte k = (bytes-held s (byte ∷ []) k).ready

ready-followed : (s : ReaderState) (line byte n : ℕ) → ReaderReady s.reader s.memory s.lists → line + suc n < 2 ^ 64
    → ReadyIn (byte_followed s line byte) n
unfolding byte_followed
ready-followed s line byte n k h =
    of-cond (λ (x : TrackerState). ReadyIn x n) (eqb byte 10)
    (λ e.
    of-cond (λ (x : TrackerState). ReadyIn x n) (is_unreadable (byte_fed s 10).reader.progress.part)
    (λ f. record { reader = ready-reader s 10 k; lines = omega (arith, h) })
    (λ f. record { reader = ready-reader s 10 k; lines = omega (arith, h) }))
    (λ e. record { reader = ready-reader s byte k; lines = omega (arith, h) })

pub ready-byte : (f : Found) (s : TrackerState) (byte n : ℕ) → TrackerReady s.tracker s.memory s.lists (suc n)
    → TrackerReady (byte_by f s byte).tracker (byte_by f s byte).memory (byte_by f s byte).lists n
ready-byte None s byte n k = ready-followed (reader_in s) s.tracker.line byte n k.reader k.lines
ready-byte (Some line) s byte n k = record { reader = k.reader; lines = omega (arith, k.lines) }

-- to read on from a place gives what all bytes give
pub record TrackingOn (bytes : List ℕ) (s₀ : TrackerState) (at : ℕ) (t : Tracker) (m : List ℕ) (l : Lists) : Type 0 where
  pub is : bytes_tracked (tracker_state t m l) (drop at bytes) ≡ bytes_tracked s₀ bytes
  pub ready : TrackerReady t m l (length bytes - at)

pub tracking-start : {bytes : List ℕ} {t : Tracker} {m : List ℕ} {l : Lists} → TrackerReady t m l (length bytes)
    → TrackingOn bytes (tracker_state t m l) 0 t m l
tracking-start {bytes} {t} {m} {l} k = record { is = refl; ready = record { reader = k.reader; lines = omega (arith, k.lines) } }

module _ {bytes : List ℕ} {s₀ : TrackerState} {at : ℕ} {t : Tracker} {m : List ℕ} {l : Lists} (g : TrackingOn bytes s₀ at t m l) where
  pub tracking-ready : at < length bytes → TrackerReady t m l 1
  tracking-ready h = record { reader = g.ready.reader; lines = omega (arith, g.ready.lines) }

  pub tracking-next : {t' : Tracker} {m' : List ℕ} {l' : Lists} → at < length bytes
      → tracker_state t' m' l' ≡ byte_tracked (tracker_state t m l) (get_or bytes at 0) → TrackingOn bytes s₀ (at + 1) t' m' l'
  unfolding bytes_tracked
  tracking-next {t'} {m'} {l'} h e =
      let byte = get_or bytes at 0 in
      let left : length bytes - at ≡ suc (length bytes - (at + 1)) = omega arith in
      let before : TrackerReady t m l (suc (length bytes - (at + 1))) = rw left at g.ready in
      let after = ready-byte t.found (tracker_state t m l) byte (length bytes - (at + 1)) before in
      record {
        is = rw (e, add-one) (rw (drop-cons bytes at 0 h) at g.is);
        ready = subst (λ (s : TrackerState). ReadyIn s (length bytes - (at + 1))) (sym e) after;
      }

  pub tracking-end : length bytes ≤ at → tracker_state t m l ≡ bytes_tracked s₀ bytes
  unfolding bytes_tracked
  tracking-end h = rw (← g.is, drop_of_length-le bytes h)

-- these, for the check to find
pub ruleset tracking_steps = (tracking-start, tracking-ready, tracking-end)

-- ---- the verdict

-- bytes that the number of the line has room for, as the code tests it
pub room-for-lines : (line n : ℕ) → n ≤ 0xffffffffffffffff - line → line ≤ 0xffffffffffffffff → ltb (line + n) (2 ^ 64) ≡ true
room-for-lines line n h k = lt-ltb (line + n) (2 ^ 64) (omega (arith, h, k))

pub no-room-for-lines : (line n : ℕ) → 0xffffffffffffffff - line < n → ltb (line + n) (2 ^ 64) ≡ false
no-room-for-lines line n h = le-ltb (line + n) (2 ^ 64) (omega (arith, h))

module _ (t : Tracker) (m : List ℕ) (l : Lists) (bytes : List ℕ) where
  pub accepted-tracker : tracker_verdict t m l bytes ≡ Ok tt → length t.reader.line ≡ 32 → TrackerReady t m l (length bytes)
  unfolding tracker_verdict
  accepted-tracker e long =
      let both = both-accept (reader_verdict t.reader m l) _ e in
      record {
        reader = accepted-reader t.reader m l both.0 long;
        lines = ltb-true (t.line + length bytes) (2 ^ 64) (by-test (ltb (t.line + length bytes) (2 ^ 64)) _ _ both.1).0;
      }

  -- and a tracker with its room is not refused
  pub tracker-accepted : TrackerReady t m l (length bytes) → tracker_verdict t m l bytes ≡ Ok tt
  unfolding tracker_verdict
  tracker-accepted k = rw (ready-accepted t.reader m l k.reader, lt-ltb (t.line + length bytes) (2 ^ 64) k.lines)
