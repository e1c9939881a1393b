-- The answer of a schedule as the console prints it.
use Rattle.std.specs.Prelude.{List, ◌++◌, ◌≡◌, refl, ℕ, ◌+◌, ◌-◌, ◌*◌, ◌≤◌, length, replicate, Ok, Err}
use Rattle.std.proofs.Common.{sym, subst, ◌∙◌, arith}
use Rattle.std.proofs.Math.Path.{ap}
use Rattle.base_outcome.specs.Numbers.{refusal_number}
use Rattle.base_outcome.specs.declared.refusal.Refusal.{Refusal}
use Rattle.base_outcome.specs.Verdict.{Verdict}
use Rattle.base_lists.specs.Written.{Wrote}
use Rattle.base_lists.specs.Laws.Written.{length-wrote, wrote_then}
use Rattle.central_record.specs.declared.record.Central.{Central}
use Rattle.shared_limits.specs.Limits.{most_stints}
use Rattle.shared_schedule.specs.Refusals.{schedule_verdict}
use Rattle.shared_schedule.specs.Schedule.{Schedule, schedule_end, schedule_of}
use Rattle.shared_schedule.proofs.Refusals.{ListsAccepted, accepted-lists}
use Rattle.shared_calls.specs.Answer.{ScheduleAnswered, schedule_answer_to, schedule_answer_by, schedule_answer}
use Rattle.shared_calls.specs.Laws.Isolation.{same-verdict, one_each}
use Rattle.shared_calls.specs.Answer.{ScheduleAnswer}
use Rattle.console_grammar.specs.Reading.{Request, request}
use Rattle.console_answer.specs.Laws.Lengths.{length-stints}
use Rattle.console_answer.specs.Laws.Stints.{stints-padded}
use Rattle.console_answer.specs.Text.{stints_text, words_text, refused_text}
use Rattle.console_calls.specs.Console.{zero_record, schedule_in, printed}
use Rattle.console_calls.specs.Finish.{most_bytes, printed_by, Ran}

abbrev printed_of : ScheduleAnswered → List ℕ → List ℕ
printed_of a js = printed_by a.answer.verdict js a.answer.turns a.answer.stops a.memory

printed-as : (s : Schedule) (v : Verdict) → (v ≡ Ok tt → length s.stint_jobs ≡ length s.stint_turns)
    → printed_of (schedule_answer_by v s) s.stint_jobs ≡ printed v s
printed-as s (Ok _) even =
    let o = schedule_end s in
    let sizes = one_each s.jobs s.stint_jobs s.stint_turns s.memory s.central (even refl) in
    let unused : List ℕ → List ℕ = λ l. replicate (most_stints - length l) 0 in
    ap (λ (lines : List ℕ). lines ++ words_text 0 o.memory)
    (stints-padded 0 s.stint_jobs o.turns o.stops (unused o.turns) (unused o.stops) sizes.0 sizes.1)
printed-as s (Err r) even = refl

-- what an accepted request says of its lists
lists_of : (q : Request) → schedule_verdict (schedule_in q) ≡ Ok tt → ListsAccepted q.jobs q.stint_jobs q.stint_turns
lists_of q e = accepted-lists (schedule_in q) (record { verdict = e; registers = refl })

-- the call is made with the record of the console
pub call-asked : (m jobs js ts m' : List ℕ) (c : Central) (a : ScheduleAnswer) → c ≡ zero_record
    → schedule_answer_to m' a ≡ schedule_answer (schedule_of m c jobs js ts) → schedule_answer_to m' a ≡ schedule_answer (schedule_in (request m jobs js ts))
call-asked m jobs js ts m' c a e f = f ∙ ap (λ (x : Central). schedule_answer (schedule_of m x jobs js ts)) e

-- the answer that the call gives is printed as the definition has it
module _ (q : Request) (m' : List ℕ) (a : ScheduleAnswer) (e : schedule_answer_to m' a ≡ schedule_answer (schedule_in q)) where
  pub printed-answer : printed_by a.verdict q.stint_jobs a.turns a.stops m'
      ≡ printed (schedule_verdict (schedule_in q)) (schedule_in q)
  unfolding schedule_answer
  printed-answer =
      ap (λ (x : ScheduleAnswered). printed_of x q.stint_jobs) e
      ∙ printed-as (schedule_in q) (schedule_verdict (schedule_in q)) (λ f. (lists_of q f).fit.even)

  answered-verdict : a.verdict ≡ schedule_verdict (schedule_in q)
  unfolding schedule_answer
  answered-verdict = ap (λ (x : ScheduleAnswered). x.answer.verdict) e ∙ same-verdict (schedule_verdict (schedule_in q)) (schedule_in q)

  pub printed-stints : a.verdict ≡ Ok tt → length q.stint_jobs ≤ most_stints
  printed-stints f = (lists_of q (sym answered-verdict ∙ f)).fit.most-stints

-- the room that is left after the lines of the stints
pub room-left : {out after : List ℕ} {next : ℕ} (js ts ps m : List ℕ) → Wrote out 0 (stints_text 0 js ts ps) after next
    → most_bytes ≤ length out → length js ≤ most_stints → length m ≤ 4096 → next + 44 * length m ≤ length after
room-left js ts ps m w h k l = omega (arith, w.ends, length-stints 0 js ts ps, length-wrote w)

-- what each verdict prints
pub prints-accepted : {out after end : List ℕ} {v : Verdict} {n p : ℕ} (js ts ps m : List ℕ) → v ≡ Ok tt
    → Wrote out 0 (stints_text 0 js ts ps) after n → Wrote after n (words_text 0 m) end p → Wrote out 0 (printed_by v js ts ps m) end p
prints-accepted js ts ps m e w x = rw e (wrote_then w x)

pub prints-refused : {out end : List ℕ} {v : Verdict} {r : Refusal} {n p : ℕ} (js ts ps m : List ℕ) → v ≡ Err r
    → n ≡ refusal_number r → Wrote out 0 (refused_text n) end p → Wrote out 0 (printed_by v js ts ps m) end p
prints-refused js ts ps m e f w = rw (e, ← f) w

-- the schedule was run and its answer printed
pub schedule-printed : {out out' m' : List ℕ} {n : ℕ} (q : Request) (a : ScheduleAnswer) → schedule_answer_to m' a ≡ schedule_answer (schedule_in q)
    → Wrote out 0 (printed_by a.verdict q.stint_jobs a.turns a.stops m') out' n → Ran (schedule_in q) out out' n m'
schedule-printed {out} {out'} {m'} {n} q a e w =
    record {
      wrote = subst (λ (bytes : List ℕ). Wrote out 0 bytes out' n) (printed-answer q m' a e) w;
      memory = ap (λ (x : ScheduleAnswered). x.memory) e;
    }
