-- A reason begins with the number that the console answers with.
use Rattle.std.proofs.lemmas.Bool.{false≢true}
use Rattle.std.specs.Prelude.{Some, None, List, ◌++◌, ◌≡◌, refl, ℕ, Ok, Err}
use Rattle.std.proofs.Common.{append-nil, sym, ap, ◌∙◌, arith}
use Rattle.base_outcome.proofs.Numbers.{verdicts-distinct}
use Rattle.base_outcome.specs.Numbers.{refusal_number, verdict_number}
use Rattle.base_outcome.specs.declared.refusal.Refusal.TheVariants as Refusal
use Rattle.base_outcome.specs.Verdict.{Verdict}
use Rattle.console_answer.specs.Text.{refused_text}
use Rattle.console_calls.specs.Console.{schedule_in, printed, output_on, output_of}
use Rattle.console_grammar.specs.Reading.{Reading, no_line, readable, unreadable, reading_of}
use Rattle.console_reader.specs.Laws.BytesRead.{is_readable}
use Rattle.console_unreadable.specs.Laws.Exact.{is_nothing, found-exact}
use Rattle.console_unreadable.specs.Unreadable.{Found, unreadable_in}
use Rattle.shared_fault.specs.Fault.{finding_of}
use Rattle.shared_fault.proofs.Findings.{accepted-names-nobody}
use Rattle.shared_schedule.specs.Refusals.{schedule_verdict}
use Rattle.shared_schedule.specs.Schedule.{Schedule}
use Rattle.console_reason.specs.Reason.{reason_on, reason_of}
use Rattle.console_reason.specs.Text.{unreadable_text, finding_text}

-- the number of the refusal, or 0
abbrev pub number_on : Reading → ℕ
number_on no_line = refusal_number Refusal.UnreadableLine
number_on unreadable = refusal_number Refusal.UnreadableLine
number_on (readable part q) = verdict_number (schedule_verdict (schedule_in q))

pub record Begins (first all : List ℕ) : Type 0 where
  pub rest : List ℕ
  pub is : all ≡ first ++ rest

begins-on : (f : Found) (x : Reading) → is_nothing f ≡ is_readable x → Begins (refused_text (number_on x)) (reason_on f x)
unfolding unreadable_text finding_text finding_of
begins-on (Some line) no_line e = record { rest = _; is = refl }
begins-on (Some line) unreadable e = record { rest = _; is = refl }
begins-on (Some line) (readable part q) e = absurd (false≢true e)
begins-on None no_line e = absurd (false≢true (sym e))
begins-on None unreadable e = absurd (false≢true (sym e))
begins-on None (readable part q) e = record { rest = _; is = refl }

-- of every input
pub reason-begins : (bytes : List ℕ) → Begins (refused_text (number_on (reading_of bytes))) (reason_of bytes)
unfolding reason_of
reason-begins bytes = begins-on (unreadable_in bytes) (reading_of bytes) (found-exact bytes)

printed-number : (v : Verdict) (s : Schedule) → (verdict_number v ≡ 0 → ⊥) → printed v s ≡ refused_text (verdict_number v)
printed-number (Ok _) s h = absurd (h refl)
printed-number (Err r) s h = refl

answer-on : (x : Reading) → (number_on x ≡ 0 → ⊥) → output_on x ≡ refused_text (number_on x)
unfolding output_on
answer-on no_line h = refl
answer-on unreadable h = refl
answer-on (readable part q) h = printed-number (schedule_verdict (schedule_in q)) (schedule_in q) h

-- and of a refused one the console answers with that line alone
pub answer-refused : (bytes : List ℕ) → (number_on (reading_of bytes) ≡ 0 → ⊥) → output_of bytes ≡ refused_text (number_on (reading_of bytes))
unfolding output_of
answer-refused bytes h = answer-on (reading_of bytes) h

-- of one that is carried out the reason is that line alone, with 0
accepted-on : (f : Found) (x : Reading) → is_nothing f ≡ is_readable x → number_on x ≡ 0 → reason_on f x ≡ refused_text 0
unfolding finding_text
accepted-on f no_line e h = absurd (omega (arith, h))
accepted-on f unreadable e h = absurd (omega (arith, h))
accepted-on (Some line) (readable part q) e h = absurd (false≢true e)
accepted-on None (readable part q) e h =
    let nobody = accepted-names-nobody (schedule_in q) (verdicts-distinct (schedule_verdict (schedule_in q)) (Ok tt) h) in
    ap finding_text nobody ∙ append-nil (refused_text 0)

pub reason-accepted : (bytes : List ℕ) → number_on (reading_of bytes) ≡ 0 → reason_of bytes ≡ refused_text 0
unfolding reason_of
reason-accepted bytes h = accepted-on (unreadable_in bytes) (reading_of bytes) (found-exact bytes) h
