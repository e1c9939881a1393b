-- A tracker finds what is to be found in the whole input, and has read all of it where it finds nothing.
use Rattle.std.specs.Prelude.{Some, None, Bool, true, false, cond, List, [], ◌∷◌, ◌++◌, ◌≡◌, refl, ℕ, zero, suc, ◌+◌, ◌-◌, ◌^◌, ◌<◌, eqb, length, take}
use Rattle.std.proofs.lemmas.Bool.{false≢true}
use Rattle.std.proofs.Math.Path.{ap}
use Rattle.std.proofs.Common.{◌∙◌, arith, ne_eqb}
use Rattle.console_line.specs.Form.{line_of}
use Rattle.console_line.specs.Laws.Long.{cut}
use Rattle.console_grammar.specs.Held.{Lists, Room, in_use, keep, reading_at}
use Rattle.console_grammar.specs.Lines.{Lines, lines, lines_after}
use Rattle.console_grammar.specs.Reading.{Request, Reading, no_line, readable, unreadable, line_to, all_to, reading_of}
use Rattle.console_grammar.specs.declared.progress.Part.{Part}
use Rattle.console_grammar.specs.declared.progress.Part.TheVariants as Last
use Rattle.console_grammar.specs.declared.progress.Progress.{Progress}
use Rattle.console_reader.specs.Fed.{ReaderReady}
use Rattle.console_reader.specs.Laws.BytesRead.{Feeding, feeding, feed_to, feed_all, end_of}
use Rattle.console_reader.specs.Laws.Input.{cut-more, keep-line, feed-input}
use Rattle.console_reader.specs.Reader.{with_line}
use Rattle.console_unreadable.specs.Rule.{rule_of}
use Rattle.console_unreadable.specs.Unreadable.{Found, line_at, last_part, here_or_later, first_unreadable, found_at_end, or_found, unreadable_in}
use Rattle.console_unreadable.specs.Tracker.{TrackerState, reader_in, tracker_state, empty_tracker, byte_tracked, bytes_tracked, end_of_part, end_of_reader, end_by, found_by, TrackerReady}
use Rattle.console_unreadable.specs.Laws.Tracker.{ready-byte}
use Rattle.console_unreadable.specs.declared.rule.Rule.{Rule}
use Rattle.console_unreadable.specs.declared.tracker.UnreadableLine.{UnreadableLine}
use Rattle.console_unreadable.specs.Laws.Exact.{is_nothing, goes_on}
use Rattle.console_unreadable.specs.Laws.Held.{Tracking, tracking, track_to, track_all, held_in, held_reader, bytes-tracked}

-- ---- the lines of the bytes

found-stays : (bytes : List ℕ) (f : Feeding) (n : ℕ) (line : UnreadableLine) → track_all (tracking f n (Some line)) bytes ≡ tracking f n (Some line)
unfolding track_all
found-stays [] f n line = refl
found-stays (byte ∷ bytes) f n line = found-stays bytes f n line

-- what is found at the end
abbrev end_found : Tracking → Found
end_found t = or_found t.found (found_at_end t.line t.fed.line t.fed.reading)

abbrev found_in : ℕ → Lines → Reading → Found
found_in n ls x = or_found (first_unreadable n x ls.ended) (found_at_end (n + length ls.ended) ls.rest (all_to x ls.ended))

end_kept : (n : ℕ) (begun : List ℕ) (x : Reading) → found_at_end n (take 32 begun) (keep x) ≡ found_at_end n begun x
end_kept n [] no_line = refl
end_kept n [] (readable part q) = refl
end_kept n [] unreadable = refl
end_kept n (byte ∷ begun) x = refl

last-kept : (x : Reading) → last_part (keep x) ≡ last_part x
last-kept no_line = refl
last-kept (readable part q) = refl
last-kept unreadable = refl

-- a line that has ended, and the lines after it, by what the line leaves
module _ (bytes begun : List ℕ) (x : Reading) (n : ℕ) where
  abbrev here : Found
  here = Some (line_at n (rule_of (last_part x) (line_of begun)))

  abbrev ended-line : Reading → Tracking
  ended-line y = tracking (feeding [] (keep y)) (cond (goes_on (keep y)) (n + 1) n) (here_or_later (keep y) here None)

  line-tracked : (y : Reading) → end_found (track_all (tracking (feeding [] (keep y)) (n + 1) None) bytes) ≡ found_in (n + 1) (lines_after [] bytes) y
      → end_found (track_all (ended-line y) bytes)
      ≡ or_found (here_or_later y here (first_unreadable (n + 1) y (lines_after [] bytes).ended))
      (found_at_end (n + 1 + length (lines_after [] bytes).ended) (lines_after [] bytes).rest (all_to y (lines_after [] bytes).ended))
  line-tracked no_line h = h
  line-tracked (readable part q) h = h
  line-tracked unreadable h = rw (found-stays bytes (feeding [] unreadable) n (line_at n (rule_of (last_part x) (line_of begun))))

-- the line feed
module _ (begun : List ℕ) (byte : ℕ) (e : eqb byte 10 ≡ true) where
  ended-tracked : (bytes : List ℕ) (x : Reading) (n : ℕ)
      → track_all (tracking (feeding (take 32 begun) (keep x)) n None) (byte ∷ bytes) ≡ track_all (ended-line bytes begun x n (line_to x (line_of begun))) bytes
  unfolding track_all
  ended-tracked bytes x n = ap (λ (t : Tracking). track_all t bytes) (rw (e, cut begun, keep-line x (line_of begun), last-kept x))

  ended-lines : (bytes : List ℕ) → lines (begun ∷ (lines_after [] bytes).ended) (lines_after [] bytes).rest ≡ lines_after begun (byte ∷ bytes)
  unfolding lines_after
  ended-lines bytes = rw e

-- a byte of a line
module _ (begun : List ℕ) (byte : ℕ) (e : eqb byte 10 ≡ false) where
  plain-fed : (x : Reading) → feed_to (feeding (take 32 begun) x) byte ≡ feeding (take 32 (begun ++ (byte ∷ []))) x
  unfolding feed_to
  plain-fed x = rw (e, cut-more 32 begun (byte ∷ []))

  plain-tracked : (bytes : List ℕ) (x : Reading) (n : ℕ)
      → track_all (tracking (feeding (take 32 begun) x) n None) (byte ∷ bytes)
      ≡ track_all (tracking (feeding (take 32 (begun ++ (byte ∷ []))) x) n None) bytes
  unfolding track_all
  plain-tracked bytes x n = ap (λ (t : Tracking). track_all t bytes) (rw e (ap (λ (f : Feeding). tracking f n None) (plain-fed x)))

  plain_lines : (bytes : List ℕ) → lines_after (begun ++ (byte ∷ [])) bytes ≡ lines_after begun (byte ∷ bytes)
  unfolding lines_after
  plain_lines bytes = rw e

track-lines : (bytes begun : List ℕ) (x : Reading) (n : ℕ)
    → end_found (track_all (tracking (feeding (take 32 begun) (keep x)) n None) bytes) ≡ found_in n (lines_after begun bytes) x
unfolding track_all lines_after first_unreadable all_to
track-lines [] begun x n = let e : n + 0 ≡ n = omega arith in rw e (end_kept n begun x)
track-lines (byte ∷ bytes) begun x n =
    by-test (eqb byte 10) refl (track-lines bytes [] (line_to x (line_of begun)) (n + 1)) (track-lines bytes (begun ++ (byte ∷ [])) x n)
  where
    by-test : (t : Bool) → eqb byte 10 ≡ t
        → end_found (track_all (tracking (feeding [] (keep (line_to x (line_of begun)))) (n + 1) None) bytes) ≡ found_in (n + 1) (lines_after [] bytes) (line_to x (line_of begun))
        → end_found (track_all (tracking (feeding (take 32 (begun ++ (byte ∷ []))) (keep x)) n None) bytes) ≡ found_in n (lines_after (begun ++ (byte ∷ [])) bytes) x
        → end_found (track_all (tracking (feeding (take 32 begun) (keep x)) n None) (byte ∷ bytes)) ≡ found_in n (lines_after begun (byte ∷ bytes)) x
    by-test true e h k =
        let more : n + suc (length (lines_after [] bytes).ended) ≡ n + 1 + length (lines_after [] bytes).ended = omega arith in
        ap end_found (ended-tracked begun byte e bytes x n)
        ∙ rw more (line-tracked bytes begun x n (line_to x (line_of begun)) h)
        ∙ ap (λ (ls : Lines). found_in n ls x) (ended-lines begun byte e bytes)
    by-test false e h k =
        ap end_found (plain-tracked begun byte e bytes (keep x) n) ∙ k ∙ ap (λ (ls : Lines). found_in n ls x) (plain_lines begun byte e bytes)

-- ---- the whole input

end-of-part : (part : Part) (q : Request) (n : ℕ) → end_of_part part n ≡ found_at_end n [] (reading_at part q)
end-of-part Last.Start q n = refl
end-of-part Last.Words q n = refl
end-of-part (Last.Block b e) q n = refl
end-of-part Last.Jobs q n = refl
end-of-part Last.Stints q n = refl
end-of-part Last.Unreadable q n = refl

end-of-reader : (p : Progress) (line : List ℕ) (k n : ℕ) (q : Request) → length line ≡ 32
    → end_of_reader (with_line p line k) n ≡ found_at_end n (take k line) (reading_at p.part q)
end-of-reader p line zero n q long = end-of-part p.part q n
end-of-reader p [] (suc k) n q long = absurd (omega arith)
end-of-reader p (byte ∷ line) (suc k) n q long = rw (ne_eqb (suc k) 0 (λ e. omega (arith, e)))

end-held : (s : TrackerState) (f : Found) → ReaderReady s.tracker.reader s.memory s.lists
    → end_by f s.tracker ≡ or_found f (found_at_end s.tracker.line (held_reader (reader_in s)).line (held_reader (reader_in s)).reading)
end-held s None k =
    let r = s.tracker.reader in
    end-of-reader r.progress r.line r.length s.tracker.line (in_use r.progress s.memory s.lists) k.long
end-held s (Some line) k = refl

-- a tracker that has read nothing, with its room
pub empty-tracker-ready : (m : List ℕ) (l : Lists) (n : ℕ) → Room m l → n < 2 ^ 64 - 1 → TrackerReady empty_tracker m l n
empty-tracker-ready m l n k h =
    record {
      reader =
          record { progress = record { words = omega arith; jobs = omega arith; stints = omega arith }; room = k; begun = omega arith; long = refl };
      lines = omega (arith, h);
    }

pub ready-all : (bytes : List ℕ) (s : TrackerState) → TrackerReady s.tracker s.memory s.lists (length bytes)
    → TrackerReady (bytes_tracked s bytes).tracker (bytes_tracked s bytes).memory (bytes_tracked s bytes).lists 0
unfolding bytes_tracked
ready-all [] s k = k
ready-all (byte ∷ bytes) s k = ready-all bytes (byte_tracked s byte) (ready-byte s.tracker.found s byte (length bytes) k)

-- what it finds in an input that it was fed from the start, in however many pieces
pub found-whole : (m : List ℕ) (l : Lists) (bytes : List ℕ) → TrackerReady empty_tracker m l (length bytes)
    → found_by (bytes_tracked (tracker_state empty_tracker m l) bytes).tracker ≡ unreadable_in bytes
unfolding unreadable_in
found-whole m l bytes k =
    let s = tracker_state empty_tracker m l in
    let after = bytes_tracked s bytes in
    end-held after after.tracker.found (ready-all bytes s k).reader
    ∙ ap end_found (bytes-tracked bytes s k)
    ∙ track-lines bytes [] no_line 1

-- ---- where nothing is found, all was read

nothing-before : (bytes : List ℕ) (f : Feeding) (n : ℕ) (found : Found) → is_nothing (track_all (tracking f n found) bytes).found ≡ true
    → is_nothing found ≡ true
nothing-before bytes f n None e = refl
nothing-before bytes f n (Some line) e = rw (found-stays bytes f n line) at e

fed-alike : (f : Feeding) (n : ℕ) (found : Found) (byte : ℕ) → is_nothing found ≡ true → (track_to f n found byte).fed ≡ feed_to f byte
unfolding feed_to
fed-alike f n (Some line) byte e = absurd (false≢true e)
fed-alike f n None byte e = by-test (eqb byte 10) refl
  where
    by-test : (t : Bool) → eqb byte 10 ≡ t → (track_to f n None byte).fed ≡ feed_to f byte
    by-test true t = rw t
    by-test false t = rw t

all-fed : (bytes : List ℕ) (t : Tracking) → is_nothing (track_all t bytes).found ≡ true → (track_all t bytes).fed ≡ feed_all t.fed bytes
unfolding track_all feed_all
all-fed [] t e = refl
all-fed (byte ∷ bytes) t e =
    let found = nothing-before (byte ∷ bytes) t.fed t.line t.found e in
    all-fed bytes (track_to t.fed t.line t.found byte) e ∙ ap (λ (f : Feeding). feed_all f bytes) (fed-alike t.fed t.line t.found byte found)

nothing_yet : (f g : Found) → is_nothing (or_found f g) ≡ true → is_nothing f ≡ true
nothing_yet None g e = refl
nothing_yet (Some line) g e = e

-- the reading that the tracker's reader holds is that of the input, as much as is kept of it
pub reading-whole : (m : List ℕ) (l : Lists) (bytes : List ℕ) → TrackerReady empty_tracker m l (length bytes) → is_nothing (unreadable_in bytes) ≡ true
    → end_of (held_reader (reader_in (bytes_tracked (tracker_state empty_tracker m l) bytes))) ≡ keep (reading_of bytes)
unfolding unreadable_in
reading-whole m l bytes k e =
    let s = tracker_state empty_tracker m l in
    let t = track_all (held_in s) bytes in
    let found : is_nothing (end_found t) ≡ true = ap is_nothing (track-lines bytes [] no_line 1) ∙ e in
    let fed = all-fed bytes (held_in s) (nothing_yet t.found _ found) in
    ap (λ (x : Tracking). end_of x.fed) (bytes-tracked bytes s k) ∙ ap end_of fed ∙ feed-input bytes
