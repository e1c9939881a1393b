-- What a tracker holds of an input: the reading, as a reader does, the number of the line, and what was found.
use Rattle.std.specs.Prelude.{Some, None, Bool, not, cond, List, [], ◌∷◌, ◌≡◌, ℕ, ◌+◌, length}
use Rattle.std.proofs.Math.Bool.{true, false}
use Rattle.std.proofs.Math.Path.{refl}
use Rattle.std.proofs.Common.{ap, ◌∙◌}
use Rattle.std.proofs.Math.Dec.{eqb}
use Rattle.console_line.specs.Form.{line_of}
use Rattle.console_grammar.specs.Held.{keep, reading_at}
use Rattle.console_grammar.specs.Reading.{Request, Reading, no_line, readable, unreadable, line_to}
use Rattle.console_grammar.specs.declared.progress.Part.{Part}
use Rattle.console_grammar.specs.declared.progress.Part.TheVariants as Last
use Rattle.console_reader.specs.Fed.{ReaderReady}
use Rattle.console_reader.specs.Laws.BytesRead.{Feeding, feeding, feed_to, feed_all, held_by}
use Rattle.console_reader.specs.Laws.Feeding.{bytes-held}
use Rattle.console_reader.specs.Reader.{ReaderState, byte_fed, bytes_fed}
use Rattle.console_unreadable.specs.Rule.{rule_of}
use Rattle.console_unreadable.specs.Unreadable.{Found, line_at, last_part, here_or_later}
use Rattle.console_unreadable.specs.Tracker.{TrackerState, reader_in, is_unreadable, line_ended, byte_followed, byte_by, byte_tracked, bytes_tracked, TrackerReady}
use Rattle.console_unreadable.specs.Laws.Tracker.{ready-byte}
use Rattle.console_unreadable.specs.Laws.Exact.{goes_on}

pub record Tracking : Type 0 where
  pub fed : Feeding
  pub line : ℕ
  pub found : Found

abbrev pub tracking : Feeding → ℕ → Found → Tracking
tracking f n found = record { fed = f; line = n; found = found }

-- the line that has begun was read
abbrev pub line_read : Feeding → ℕ → Reading → Tracking
line_read f n x =
    tracking (feeding [] x) (cond (goes_on x) (n + 1) n) (here_or_later x (Some (line_at n (rule_of (last_part f.reading) (line_of f.line)))) None)

abbrev pub read_to : Feeding → Reading
read_to f = keep (line_to f.reading (line_of f.line))

abbrev pub track_to : Feeding → ℕ → Found → ℕ → Tracking
track_to f n None byte = cond (eqb byte 10) (line_read f n (read_to f)) (tracking (feed_to f byte) n None)
track_to f n (Some line) byte = tracking f n (Some line)

unfoldable pub track_all : Tracking → List ℕ → Tracking
track_all t [] = t
track_all t (byte ∷ bytes) = track_all (track_to t.fed t.line t.found byte) bytes

abbrev pub held_in : TrackerState → Tracking
held_in s = tracking (held_by s.tracker.reader s.memory s.lists) s.tracker.line s.tracker.found

last-held : (part : Part) (q : Request) → last_part (reading_at part q) ≡ part
last-held Last.Start q = refl
last-held Last.Words q = refl
last-held (Last.Block b e) q = refl
last-held Last.Jobs q = refl
last-held Last.Stints q = refl
last-held Last.Unreadable q = refl

unreadable-held : (part : Part) (q : Request) → is_unreadable part ≡ not (goes_on (reading_at part q))
unreadable-held Last.Start q = refl
unreadable-held Last.Words q = refl
unreadable-held (Last.Block b e) q = refl
unreadable-held Last.Jobs q = refl
unreadable-held Last.Stints q = refl
unreadable-held Last.Unreadable q = refl

abbrev pub held_reader : ReaderState → Feeding
held_reader s = held_by s.reader s.memory s.lists

module _ (before after : ReaderState) (n : ℕ) where
  -- whether the line made the input unreadable, by the reading that is held after it
  ended_by : (x : Reading) → held_reader after ≡ feeding [] x → is_unreadable after.reader.progress.part ≡ not (goes_on x)
  ended_by x e = unreadable-held after.reader.progress.part _ ∙ ap (λ (f : Feeding). not (goes_on f.reading)) e

  line-held : (x : Reading) → held_reader after ≡ feeding [] x → held_in (line_ended before after n) ≡ line_read (held_reader before) n x
  line-held no_line e = rw (ended_by no_line e) (ap (λ (f : Feeding). tracking f (n + 1) None) e)
  line-held (readable part q) e = rw (ended_by (readable part q) e) (ap (λ (f : Feeding). tracking f (n + 1) None) e)
  line-held unreadable e =
      rw (ended_by unreadable e, last-held before.reader.progress.part _)
      (ap (λ (f : Feeding). tracking f n (Some (line_at n (rule_of before.reader.progress.part (line_of (held_reader before).line))))) e)

-- a byte does to what a tracker holds what it does to the tracker
module _ (s : TrackerState) (k : ReaderReady s.tracker.reader s.memory s.lists) (byte : ℕ) where
  abbrev reader : ReaderState
  reader = reader_in s

  -- what the reader holds after a byte
  fed-held : (b : ℕ) → held_reader (byte_fed reader b) ≡ feed_to (held_reader reader) b
  unfolding bytes_fed feed_all
  fed-held b = (bytes-held reader (b ∷ []) k).is

  followed-held : held_in (byte_followed reader s.tracker.line byte) ≡ track_to (held_reader reader) s.tracker.line None byte
  unfolding byte_followed feed_to
  followed-held = by-test (eqb byte 10) refl
    where
      by-test : (t : Bool) → eqb byte 10 ≡ t → held_in (byte_followed reader s.tracker.line byte) ≡ track_to (held_reader reader) s.tracker.line None byte
      by-test true e = rw e (line-held reader (byte_fed reader 10) s.tracker.line (read_to (held_reader reader)) (fed-held 10))
      by-test false e = rw e (ap (λ (f : Feeding). tracking f s.tracker.line None) (fed-held byte ∙ rw e))

  byte-held : (f : Found) → s.tracker.found ≡ f → held_in (byte_by f s byte) ≡ track_to (held_reader reader) s.tracker.line f byte
  byte-held None e = followed-held
  byte-held (Some line) e = ap (λ (found : Found). tracking (held_reader reader) s.tracker.line found) e

-- all bytes
pub bytes-tracked : (bytes : List ℕ) (s : TrackerState) → TrackerReady s.tracker s.memory s.lists (length bytes)
    → held_in (bytes_tracked s bytes) ≡ track_all (held_in s) bytes
unfolding bytes_tracked track_all
bytes-tracked [] s k = refl
bytes-tracked (byte ∷ bytes) s k =
    bytes-tracked bytes (byte_tracked s byte) (ready-byte s.tracker.found s byte (length bytes) k)
    ∙ ap (λ (t : Tracking). track_all t bytes) (byte-held s k.reader byte s.tracker.found refl)
