-- The cases of the end of an input, and the answer to a whole input.
use Rattle.std.specs.Prelude.{Ok, Err, true, false, List, ◌++◌, ◌≡◌, refl, ℕ, ◌≤◌, ◌<◌, length, drop, take}
use Rattle.std.proofs.lemmas.Bool.{false≢true, lt-leb}
use Rattle.std.proofs.Common.{sym, ap, subst, ◌∙◌, arith, le-leb, length-take-le}
use Rattle.base_outcome.specs.Numbers.{refusal_number}
use Rattle.base_outcome.specs.declared.refusal.Refusal as Reason
use Rattle.base_outcome.specs.declared.refusal.Refusal.TheVariants as Refusal
use Rattle.base_outcome.specs.Verdict.{Verdict}
use Rattle.base_lists.specs.Written.{Wrote}
use Rattle.shared_schedule.specs.Refusals.{schedule_verdict}
use Rattle.shared_calls.specs.Answer.{schedule_answer}
use Rattle.console_grammar.specs.Reading.{Request, Reading, no_line, readable, unreadable, reading_of}
use Rattle.console_grammar.specs.Held.{Lists, Room, in_use, reading_at}
use Rattle.console_grammar.specs.Laws.Blocks.{memory-length}
use Rattle.console_grammar.specs.declared.progress.Part.{Part}
use Rattle.console_grammar.specs.declared.progress.Part.TheVariants as Last
use Rattle.console_reader.specs.Reader.{ReaderState, reader_state, empty_reader, bytes_fed, FeedAnswered, feed_answered, feed_answer_to, feed_answer_by, feed_answer, is_complete}
use Rattle.console_reader.specs.Laws.BytesRead.{Feeding, feed_all, nothing_fed, held_by, end_of, is_readable}
use Rattle.console_reader.specs.Fed.{ReaderReady}
use Rattle.console_reader.specs.Laws.Feeding.{complete-is, complete-held, bytes-held}
use Rattle.console_reader.specs.Laws.Input.{feed-input}
use Rattle.console_reader.specs.Laws.Verdict.{ready-accepted}
use Rattle.console_reader.specs.declared.reader.Reader.{Reader}
use Rattle.console_answer.specs.Text.{refused_text}
use Rattle.console_calls.specs.Console.{schedule_in, printed, output_on, output_of}
use Rattle.console_calls.specs.Finish.{Output, most_bytes, Written, written, written_to, memory_after, finished_memory, Finished, finished, finish_to, finish_answer, Ran}
use Rattle.console_calls.specs.Laws.Kept.{output-kept}

pub finish-short : (x : Reading) (out m : List ℕ) → length out < most_bytes → finished (written (Err Refusal.ListLength) out) m ≡ finish_to x out m
unfolding written_to finished_memory
finish-short x out m h = rw (lt-leb most_bytes (length out) h)

-- with room: what was written, and the memory
written-room : {out out' bytes : List ℕ} {n : ℕ} → most_bytes ≤ length out → Wrote out 0 bytes out' n
    → written (Ok n) out' ≡ written_to bytes out
unfolding written_to
written-room {out} {out'} {bytes} {n} h w =
    let e : n ≡ length bytes = omega (arith, w.ends) in
    rw (le-leb most_bytes (length out) h, w.is, e)

memory-room : (x : Reading) (out m : List ℕ) → most_bytes ≤ length out → memory_after x m ≡ finished_memory x out m
unfolding finished_memory
memory-room x out m h = rw (le-leb most_bytes (length out) h)

both-same : {w w' : Written} {m m' : List ℕ} → w ≡ w' → m ≡ m' → finished w m ≡ finished w' m'
both-same e f = rw (e, f)

unreadable-out : (x : Reading) (n : ℕ) → is_readable x ≡ false → n ≡ refusal_number Refusal.UnreadableLine → refused_text n ≡ output_on x
unfolding output_on
unreadable-out no_line n e f = rw f
unreadable-out (readable part q) n e f = absurd (false≢true (sym e))
unreadable-out unreadable n e f = rw f

unreadable-memory : (x : Reading) (m : List ℕ) → is_readable x ≡ false → m ≡ memory_after x m
unfolding memory_after
unreadable-memory no_line m e = refl
unreadable-memory (readable part q) m e = absurd (false≢true (sym e))
unreadable-memory unreadable m e = refl

pub finish-unreadable : {out out' : List ℕ} {n k : ℕ} (x : Reading) (m : List ℕ) → is_readable x ≡ false
    → n ≡ refusal_number Refusal.UnreadableLine → most_bytes ≤ length out → Wrote out 0 (refused_text n) out' k
    → finished (written (Ok k) out') m ≡ finish_to x out m
finish-unreadable {out} {out'} {n} {k} x m e f h w =
    both-same (written-room h w ∙ ap (λ (bytes : List ℕ). written_to bytes out) (unreadable-out x n e f))
    (unreadable-memory x m e ∙ memory-room x out m h)

-- a readable input, by the kind of its last line
readable-out : (part : Part) (q : Request) → is_readable (reading_at part q) ≡ true
    → printed (schedule_verdict (schedule_in q)) (schedule_in q) ≡ output_on (reading_at part q)
unfolding output_on
readable-out Last.Start q e = absurd (false≢true e)
readable-out Last.Words q e = refl
readable-out (Last.Block b end) q e = refl
readable-out Last.Jobs q e = refl
readable-out Last.Stints q e = refl
readable-out Last.Unreadable q e = absurd (false≢true e)

readable-memory : (part : Part) (q : Request) (m : List ℕ) → is_readable (reading_at part q) ≡ true
    → (schedule_answer (schedule_in q)).memory ++ drop (length q.memory) m ≡ memory_after (reading_at part q) m
unfolding memory_after
readable-memory Last.Start q m e = absurd (false≢true e)
readable-memory Last.Words q m e = refl
readable-memory (Last.Block b end) q m e = refl
readable-memory Last.Jobs q m e = refl
readable-memory Last.Stints q m e = refl
readable-memory Last.Unreadable q m e = absurd (false≢true e)

pieces : {a b : List ℕ} {n k : ℕ} (m : List ℕ) → a ≡ b → n ≡ k → a ++ drop n m ≡ b ++ drop k m
pieces m e f = rw (e, f)

pub finish-run : {out out' m₁ : List ℕ} {n : ℕ} (r : Reader) (m : List ℕ) (l : Lists) → ReaderReady r m l → is_complete r ≡ true
    → most_bytes ≤ length out → Ran (schedule_in (in_use r.progress m l)) out out' n m₁
    → finished (written (Ok n) out') (m₁ ++ drop r.progress.words m) ≡ finish_to (end_of (held_by r m l)) out m
finish-run {out} {out'} {m₁} {n} r m l k e h ran =
    let p = r.progress in
    let q = in_use p m l in
    let readable = sym (complete-is r m l k) ∙ e in
    let is = complete-held r m l readable in
    let f : is_readable (reading_at p.part q) ≡ true = sym (ap is_readable is) ∙ readable in
    let words = memory-length p m k.progress k.room.memory in
    rw is
    (both-same (written-room h ran.wrote ∙ ap (λ (bytes : List ℕ). written_to bytes out) (readable-out p.part q f))
    (pieces m ran.memory (sym words) ∙ readable-memory p.part q m f ∙ memory-room (reading_at p.part q) out m h))

pub take_short : (n k : ℕ) (m : List ℕ) → n ≤ length m → n ≤ k → length (take n m) ≤ k
take_short n k m h l = rw (length-take-le n m h) l

-- what is written at the end of an input that was fed from the start, in however many pieces
pub output-fed : (input : List ℕ) → output_on (end_of (feed_all nothing_fed input)) ≡ output_of input
unfolding output_of
output-fed input = ap output_on (feed-input input) ∙ output-kept (reading_of input)

-- a reader that has read nothing
pub empty-ready : (m : List ℕ) (l : Lists) → Room m l → ReaderReady empty_reader m l
empty-ready m l k =
    record { progress = record { words = omega arith; jobs = omega arith; stints = omega arith }; room = k; begun = omega arith; long = refl }

-- a reader with its room, fed: no number refuses it
module _ (r : Reader) (m : List ℕ) (l : Lists) (bytes : List ℕ) (k : ReaderReady r m l) where
  fed-as : {a : FeedAnswered} → a ≡ feed_answer (reader_state r m l) bytes
      → a ≡ feed_answered (Ok tt) (bytes_fed (reader_state r m l) bytes)
  unfolding feed_answer
  fed-as e = e ∙ ap (λ (x : Verdict). feed_answer_by x (reader_state r m l) (bytes_fed (reader_state r m l) bytes)) (ready-accepted r m l k)

  fed-accepted : {r' : Reader} {m' : List ℕ} {l' : Lists} → feed_answer_to r m' l' (Ok r') ≡ feed_answer (reader_state r m l) bytes
      → reader_state r' m' l' ≡ bytes_fed (reader_state r m l) bytes
  fed-accepted e = ap (λ (x : FeedAnswered). reader_state x.reader x.memory x.lists) (fed-as e)

  pub fed-not-refused : {x : Reason.Refusal} {m' : List ℕ} {l' : Lists} → feed_answer_to r m' l' (Err x) ≡ feed_answer (reader_state r m l) bytes → ⊥
  fed-not-refused {x} e = let f : ◌≡◌ {A = Verdict} (Err x) (Ok tt) = ap (λ (y : FeedAnswered). y.verdict) (fed-as e) in cc

-- a reader with its room, at the end of its input
pub finish-ready : (r : Reader) (m : List ℕ) (l : Lists) (out : List ℕ) → ReaderReady r m l
    → finish_answer r m l out ≡ finish_to (end_of (held_by r m l)) out m
unfolding finish_answer
finish-ready r m l out k = rw (ready-accepted r m l k)

pub whole-answer : {r' : Reader} {o : Output} {out' m' m₁ : List ℕ} {l₁ : Lists} (out input : List ℕ) (r : Reader) (m : List ℕ) (l : Lists)
    → r ≡ empty_reader → Room m l → feed_answer_to r m₁ l₁ (Ok r') ≡ feed_answer (reader_state r m l) input
    → finished (written o out') m' ≡ finish_answer r' m₁ l₁ out → written o out' ≡ written_to (output_of input) out
whole-answer {r'} {o} {out'} {m'} {m₁} {l₁} out input r m l e k f g =
    let ready : ReaderReady r m l = rw e (empty-ready m l k) in
    let fed = fed-accepted r m l input ready f in
    let held = bytes-held (reader_state r m l) input ready in
    let after = subst (λ (s : ReaderState). ReaderReady s.reader s.memory s.lists) (sym fed) held.ready in
    let reads = ap (λ (s : ReaderState). held_by s.reader s.memory s.lists) fed ∙ held.is
    ∙ ap (λ (x : Reader). feed_all (held_by x m l) input) e in
    ap (λ (x : Finished). x.written) (g ∙ finish-ready r' m₁ l₁ out after)
    ∙ ap (λ (x : Feeding). written_to (output_on (end_of x)) out) reads
    ∙ ap (λ (bytes : List ℕ). written_to bytes out) (output-fed input)

-- and the input of a whole answer is fed
pub whole-fed : {x : Reason.Refusal} {m₁ : List ℕ} {l₁ : Lists} (input : List ℕ) (r : Reader) (m : List ℕ) (l : Lists)
    → r ≡ empty_reader → Room m l → feed_answer_to r m₁ l₁ (Err x) ≡ feed_answer (reader_state r m l) input → ⊥
whole-fed input r m l e k f = fed-not-refused r m l input (rw e (empty-ready m l k)) f
