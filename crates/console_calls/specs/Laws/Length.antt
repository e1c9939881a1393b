-- No answer is longer than the room that is asked for it.
use Rattle.std.specs.Prelude.{IfOk, Bool, true, false, List, [], ◌≡◌, ℕ, ◌≤◌, leb, length, take, Ok, Err}
use Rattle.std.proofs.Math.Path.{refl}
use Rattle.std.proofs.Common.{sym, ap, subst, ◌∙◌, arith, leb-true, length-append, length-take}
use Rattle.std.proofs.Math.Nat.{min-le_right}
use Rattle.std.proofs.Math.Seq.{length-sets}
use Rattle.base_outcome.specs.Numbers.{refusal_number}
use Rattle.base_outcome.specs.declared.refusal.Refusal.TheVariants as Refusal
use Rattle.base_outcome.specs.Verdict.{Verdict}
use Rattle.shared_schedule.specs.Isolation.{ScheduleAccepted}
use Rattle.shared_schedule.specs.Laws.Projection.{stints-length-back}
use Rattle.shared_schedule.proofs.Refusals.{accepted-lists, accepted-ready}
use Rattle.shared_schedule.specs.Refusals.{schedule_verdict}
use Rattle.shared_schedule.specs.Schedule.{schedule_end}
use Rattle.console_grammar.specs.Laws.Grammar.{memory-words}
use Rattle.console_grammar.proofs.Grammar.{read-readable}
use Rattle.console_grammar.specs.Held.{Lists, in_use, reading_at}
use Rattle.console_grammar.specs.Reading.{Part, Request, Reading, no_line, readable, unreadable, reading_of}
use Rattle.console_grammar.specs.declared.progress.Part as Last
use Rattle.console_grammar.specs.declared.progress.Part.TheVariants as Kind
use Rattle.console_reader.specs.Laws.BytesRead.{held_by, end_of, is_readable}
use Rattle.console_reader.specs.Laws.Feeding.{complete-held}
use Rattle.console_reader.specs.Laws.Verdict.{accepted-memory}
use Rattle.console_reader.specs.Reader.{reader_verdict}
use Rattle.console_reader.specs.declared.reader.Reader.{Reader}
use Rattle.console_answer.specs.Laws.Lengths.{length-stints, length-words, length-refused}
use Rattle.console_calls.specs.Console.{schedule_in, printed, output_on, output_of}
use Rattle.console_calls.specs.Finish.{Output, most_bytes, bytes_in, written, written_to, Finished, finished, finish_by, finish_answer}

printed-fits : (q : Request) → length q.memory ≤ 4096 → (v : Verdict) → schedule_verdict (schedule_in q) ≡ v
    → length (printed v (schedule_in q)) ≤ most_bytes
printed-fits q h (Ok _) e =
    let s = schedule_in q in
    let a : ScheduleAccepted s = record { verdict = e; registers = refl } in
    let lists = accepted-lists s a in
    let same = stints-length-back q.jobs q.stint_jobs q.stint_turns q.memory s.central (accepted-ready s a) lists.listed in
    let end = schedule_end s in
    simp length-append
    (omega (arith, lists.fit.most-stints, length-stints 0 q.stint_jobs end.turns end.stops, length-words 0 end.memory, same))
printed-fits q h (Err r) e = omega (arith, length-refused (refusal_number r))

abbrev Fits : Reading → Type 0
Fits x = length (output_on x) ≤ most_bytes

output-fits : (x : Reading) → ((part : Part) (q : Request) → x ≡ readable part q → length q.memory ≤ 4096) → Fits x
unfolding output_on
output-fits no_line f = omega (arith, length-refused (refusal_number Refusal.UnreadableLine))
output-fits (readable part q) f = printed-fits q (f part q refl) (schedule_verdict (schedule_in q)) refl
output-fits unreadable f = omega (arith, length-refused (refusal_number Refusal.UnreadableLine))

-- the answer to a whole input
pub answer-fits : (input : List ℕ) → length (output_of input) ≤ most_bytes
unfolding output_of
answer-fits input =
    output-fits (reading_of input)
    (λ part q e.
    let w = read-readable input part q e in
    subst (λ (x : Request). length x.memory ≤ 4096) w.asks (rw (memory-words w.program) w.readable.at_most))

-- the answer to what a reader holds
abbrev memory_in : Reading → List ℕ
memory_in no_line = []
memory_in (readable part q) = q.memory
memory_in unreadable = []

memory-held : (part : Last.Part) (q : Request) → length q.memory ≤ 4096 → length (memory_in (reading_at part q)) ≤ 4096
memory-held Kind.Start q h = omega arith
memory-held Kind.Words q h = h
memory-held (Kind.Block b e) q h = h
memory-held Kind.Jobs q h = h
memory-held Kind.Stints q h = h
memory-held Kind.Unreadable q h = omega arith

held_fits : (r : Reader) (m : List ℕ) (l : Lists) → length m ≡ 4096 → Fits (end_of (held_by r m l))
held_fits r m l h =
    output-fits (end_of (held_by r m l))
    (λ part q e.
    let p = r.progress in
    let is = complete-held r m l (ap is_readable e) in
    let most : length (take p.words m) ≤ 4096 = rw (length-take p.words m) (omega (arith, min-le_right p.words (length m))) in
    subst (λ (x : List ℕ). length x ≤ 4096) (ap memory_in (sym is ∙ e)) (memory-held p.part (in_use p m l) most))

written-fits : (bytes out : List ℕ) → length bytes ≤ most_bytes → (t : Bool) → leb most_bytes (length out) ≡ t
    → bytes_in (written_to bytes out).answer ≤ length (written_to bytes out).out
unfolding written_to
written-fits bytes out h true e = rw (e, length-sets out 0 bytes) (omega (arith, leb-true most_bytes (length out) e))
written-fits bytes out h false e = rw e (omega arith)

-- so the bytes that an answer takes up are bytes of the buffer
module _ {n : ℕ} {out' m' : List ℕ} (r : Reader) (out m : List ℕ) (l : Lists) (o : Output) (e : o ≡ Ok n) where
  inside-by : (v : Verdict) → reader_verdict r m l ≡ v → finished (written o out') m' ≡ finish_by v (end_of (held_by r m l)) out m → n ≤ length out'
  inside-by (Ok tt) k f =
      let bytes = output_on (end_of (held_by r m l)) in
      let count : n ≡ bytes_in (written_to bytes out).answer = sym (ap bytes_in e) ∙ ap (λ (x : Finished). bytes_in x.written.answer) f in
      let size : length out' ≡ length (written_to bytes out).out = ap (λ (x : Finished). length x.written.out) f in
      rw (count, size) (written-fits bytes out (held_fits r m l (accepted-memory r m l k)) (leb most_bytes (length out)) refl)
  inside-by (Err x) k f =
      let none : n ≡ 0 = sym (ap bytes_in e) ∙ ap (λ (y : Finished). bytes_in y.written.answer) f in
      omega (arith, none)

  pub bytes_inside : finished (written o out') m' ≡ finish_answer r m l out → n ≤ length out'
  unfolding finish_answer
  bytes_inside f = inside-by (reader_verdict r m l) refl f

-- of every answer
pub answer_inside : {out' m' : List ℕ} (r : Reader) (out m : List ℕ) (l : Lists) (o : Output) → finished (written o out') m' ≡ finish_answer r m l out
    → IfOk o (λ n. n ≤ length out')
answer_inside r out m l (Ok n) f = bytes_inside r out m l (Ok n) refl f
answer_inside r out m l (Err x) f = tt
