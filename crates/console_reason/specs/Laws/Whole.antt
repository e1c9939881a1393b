-- The reason for a whole input, however it was read.
use Rattle.std.specs.Prelude.{Ok, Err, Some, None, true, List, ◌≡◌, ℕ, ◌-◌, ◌^◌, ◌<◌, length}
use Rattle.std.proofs.lemmas.Bool.{false≢true}
use Rattle.std.proofs.Math.Path.{refl, ap}
use Rattle.std.proofs.Common.{sym, ◌∙◌}
use Rattle.base_outcome.specs.Verdict.{Verdict}
use Rattle.base_outcome.specs.declared.refusal.Refusal.{Refusal}
use Rattle.console_calls.specs.Finish.{Output, written}
use Rattle.console_grammar.specs.Held.{Lists, Room, in_use, reading_at, keep}
use Rattle.console_grammar.specs.Reading.{Request, Reading, no_line, readable, unreadable, reading_of}
use Rattle.console_grammar.specs.declared.progress.Part.{Part}
use Rattle.console_grammar.specs.declared.progress.Part.TheVariants as Last
use Rattle.console_reader.specs.Laws.BytesRead.{is_readable}
use Rattle.console_reader.specs.Laws.Feeding.{complete-held}
use Rattle.console_reader.specs.Laws.Verdict.{ready-accepted}
use Rattle.console_unreadable.specs.Laws.Tracker.{tracker-accepted}
use Rattle.console_unreadable.specs.Laws.Exact.{is_nothing, found-exact}
use Rattle.console_unreadable.specs.Laws.Whole.{empty-tracker-ready, ready-all, found-whole, reading-whole}
use Rattle.console_unreadable.specs.Tracker.{TrackerState, tracker_state, empty_tracker, bytes_tracked, TrackAnswered, track_answered, track_answer_to, track_answer_by, track_answer, found_by, TrackerReady}
use Rattle.console_unreadable.specs.Unreadable.{Found, unreadable_in}
use Rattle.console_unreadable.specs.declared.tracker.Tracker.{Tracker}
use Rattle.console_reason.specs.Laws.Kept.{reason_kept}
use Rattle.console_reason.specs.Reason.{reason_by, reason_on, reason_of, reason_to, explain_answer}

-- a readable input, by the kind of its last line
readable-reason : (part : Part) (q : Request) → is_readable (reading_at part q) ≡ true → reason_by None q ≡ reason_on None (reading_at part q)
readable-reason Last.Start q e = absurd (false≢true e)
readable-reason Last.Words q e = refl
readable-reason (Last.Block b end) q e = refl
readable-reason Last.Jobs q e = refl
readable-reason Last.Stints q e = refl
readable-reason Last.Unreadable q e = absurd (false≢true e)

readable-kept : (x : Reading) → is_readable (keep x) ≡ is_readable x
readable-kept no_line = refl
readable-kept (readable part q) = refl
readable-kept unreadable = refl

-- by what was found in the input
module _ (m : List ℕ) (l : Lists) (bytes : List ℕ) (k : TrackerReady empty_tracker m l (length bytes)) where
  abbrev after : TrackerState
  after = bytes_tracked (tracker_state empty_tracker m l) bytes

  abbrev request : Request
  request = in_use after.tracker.reader.progress after.memory after.lists

  reason-by : (f : Found) → unreadable_in bytes ≡ f → reason_by f request ≡ reason_on f (reading_of bytes)
  reason-by (Some line) e = refl
  reason-by None e =
      let r = after.tracker.reader in
      let nothing : is_nothing (unreadable_in bytes) ≡ true = ap is_nothing e in
      let whole = reading-whole m l bytes k nothing in
      let readable = ap is_readable whole ∙ readable-kept (reading_of bytes) ∙ sym (found-exact bytes) ∙ nothing in
      let held = complete-held r after.memory after.lists readable in
      readable-reason r.progress.part request (ap is_readable (sym held) ∙ readable)
      ∙ ap (λ (x : Reading). reason_on None x) (sym held ∙ whole)
      ∙ reason_kept (reading_of bytes)

  reason-tracked : reason_by (found_by after.tracker) request ≡ reason_of bytes
  unfolding reason_of
  reason-tracked = ap (λ (f : Found). reason_by f request) (found-whole m l bytes k) ∙ reason-by (unreadable_in bytes) refl

-- a tracker with its room, at the end of its input
explain-ready : (s : TrackerState) (out : List ℕ) → TrackerReady s.tracker s.memory s.lists 0
    → explain_answer s.tracker s.memory s.lists out
    ≡ reason_to (reason_by (found_by s.tracker) (in_use s.tracker.reader.progress s.memory s.lists)) out
unfolding explain_answer
explain-ready s out k = rw (ready-accepted s.tracker.reader s.memory s.lists k.reader)

-- a tracker with its room, fed: no number refuses it
module _ (t : Tracker) (m : List ℕ) (l : Lists) (bytes : List ℕ) (k : TrackerReady t m l (length bytes)) where
  tracked-as : {a : TrackAnswered} → a ≡ track_answer (tracker_state t m l) bytes
      → a ≡ track_answered (Ok tt) (bytes_tracked (tracker_state t m l) bytes)
  unfolding track_answer
  tracked-as e =
      let s = tracker_state t m l in
      e ∙ ap (λ (v : Verdict). track_answer_by v s (bytes_tracked s bytes)) (tracker-accepted t m l bytes k)

  tracked-accepted : {t' : Tracker} {m' : List ℕ} {l' : Lists} → track_answer_to t m' l' (Ok t') ≡ track_answer (tracker_state t m l) bytes
      → tracker_state t' m' l' ≡ bytes_tracked (tracker_state t m l) bytes
  tracked-accepted e = ap (λ (x : TrackAnswered). tracker_state x.tracker x.memory x.lists) (tracked-as e)

  tracked-not-refused : {x : Refusal} {m' : List ℕ} {l' : Lists} → track_answer_to t m' l' (Err x) ≡ track_answer (tracker_state t m l) bytes → ⊥
  tracked-not-refused {x} e = let f : ◌≡◌ {A = Verdict} (Err x) (Ok tt) = ap (λ (y : TrackAnswered). y.verdict) (tracked-as e) in cc

pub whole-reason : {t' : Tracker} {o : Output} {out' m₁ : List ℕ} {l₁ : Lists} (out input : List ℕ) (t : Tracker) (m : List ℕ) (l : Lists)
    → t ≡ empty_tracker → Room m l → length input < 2 ^ 64 - 1 → track_answer_to t m₁ l₁ (Ok t') ≡ track_answer (tracker_state t m l) input
    → written o out' ≡ explain_answer t' m₁ l₁ out → written o out' ≡ reason_to (reason_of input) out
whole-reason {t'} {o} {out'} {m₁} {l₁} out input t m l e room short f g =
    let ready = empty-tracker-ready m l (length input) room short in
    let given : track_answer_to empty_tracker m₁ l₁ (Ok t') ≡ track_answer (tracker_state empty_tracker m l) input = rw e at f in
    let tracked = tracked-accepted empty_tracker m l input ready given in
    g ∙ ap (λ (s : TrackerState). explain_answer s.tracker s.memory s.lists out) tracked
    ∙ explain-ready (bytes_tracked (tracker_state empty_tracker m l) input) out (ready-all input (tracker_state empty_tracker m l) ready)
    ∙ ap (λ (bytes : List ℕ). reason_to bytes out) (reason-tracked m l input ready)

-- and a whole input is tracked
pub whole-tracked : {x : Refusal} {m₁ : List ℕ} {l₁ : Lists} (input : List ℕ) (t : Tracker) (m : List ℕ) (l : Lists)
    → t ≡ empty_tracker → Room m l → length input < 2 ^ 64 - 1 → track_answer_to t m₁ l₁ (Err x) ≡ track_answer (tracker_state t m l) input → ⊥
whole-tracked {x} {m₁} {l₁} input t m l e room short f =
    tracked-not-refused empty_tracker m l input (empty-tracker-ready m l (length input) room short) (rw e at f)
