-- What is written of a reason, and that it fits.
use Rattle.std.specs.Prelude.{IfOk, Option, Some, None, Bool, List, ◌≡◌, ℕ, ◌+◌, ◌≤◌, ◌<◌, Ok, Err}
use Rattle.std.proofs.Math.Bool.{true, false}
use Rattle.std.proofs.Math.Path.{refl, ap}
use Rattle.std.proofs.Common.{sym, ◌∙◌, arith, length-append}
use borrow.Author.Tests.{lt-leb, le-leb, leb-true}
use Rattle.std.proofs.Math.Dec.{leb}
use Rattle.std.proofs.Math.ListN.{length}
use Rattle.std.proofs.lemmas.List.Edits.{sets}
use Rattle.std.proofs.Math.Seq.{length-sets}
use Rattle.base_lists.specs.Written.{Wrote}
use Rattle.word_octal.specs.Writes.{Writes}
use Rattle.word_octal.specs.Laws.Writes.{writes_then, writes_three}
use Rattle.word_octal.specs.declared.write.Writer.{Writer}
use Rattle.base_outcome.specs.Numbers.{refusal_number, verdict_number}
use Rattle.base_outcome.specs.declared.refusal.Refusal.TheVariants as Refusal
use Rattle.base_outcome.specs.Verdict.{Verdict}
use Rattle.central_record.specs.declared.record.Central.{Central}
use Rattle.console_answer.specs.Laws.Lengths.{length_octal_line, length-refused}
use Rattle.console_answer.specs.Text.{refused_text}
use Rattle.console_calls.specs.Console.{zero_record, schedule_in}
use Rattle.console_calls.specs.Finish.{Output, bytes_in, Written, written}
use Rattle.console_grammar.specs.Held.{Lists, in_use}
use Rattle.console_grammar.specs.Reading.{Request}
use Rattle.console_reader.specs.Reader.{reader_verdict}
use Rattle.console_text.specs.Laws.Decimal.{length_decimal}
use Rattle.console_text.specs.Line.{decimal_number, line}
use Rattle.console_text.specs.Names.{job_is, stint_is, line_is, rule_is, package_is, field_is}
use Rattle.console_unreadable.specs.Tracker.{found_by}
use Rattle.console_unreadable.specs.Unreadable.{Found}
use Rattle.console_unreadable.specs.declared.rule.Rule.{Rule}
use Rattle.console_unreadable.specs.declared.rule.Rule.TheVariants.{Form, Limit, Order, Below, Past, LineFeed, Empty}
use Rattle.console_unreadable.specs.declared.tracker.Tracker.{Tracker}
use Rattle.shared_fault.specs.Fault.{finding_of}
use Rattle.shared_fault.specs.declared.fault.Fault.{Fault}
use Rattle.shared_fault.specs.declared.fault.Fault.TheVariants.{NoJob, Job, Stint, PackageField, Packages, Fields}
use Rattle.shared_fault.specs.Fault.{VerdictAndFault}
use Rattle.shared_schedule.specs.Schedule.{schedule_of}
use Rattle.console_reason.specs.Reason.{most_reason_bytes, reason_by, reason_to, explain_by, explain_answer}
use Rattle.console_reason.specs.Text.{rule_name, unreadable_text, fault_text, finding_text}

-- ---- lengths

pub length-number-line : (name : List ℕ) (v : ℕ) → length (line name (decimal_number v)) ≤ length name + 21
length-number-line name v = simp length-append (omega (arith, length_decimal 20 v))

length-rule : (rule : Rule) → length (line rule_is (rule_name rule)) ≤ 15
length-rule Form = omega arith
length-rule Limit = omega arith
length-rule Order = omega arith
length-rule Below = omega arith
length-rule Past = omega arith
length-rule LineFeed = omega arith
length-rule Empty = omega arith

length-unreadable : (n : ℕ) (rule : Rule) → length (unreadable_text n rule) ≤ 52
unfolding unreadable_text
length-unreadable n rule =
    rw (length-append (refused_text (refusal_number Refusal.UnreadableLine)) _, length-append (line line_is (decimal_number n)) _)
    (omega (arith, length-refused (refusal_number Refusal.UnreadableLine), length-number-line line_is n, length-rule rule))

length-fault : (f : Option Fault) → length (fault_text f) ≤ 62
length-fault None = omega arith
length-fault (Some NoJob) = omega arith
length-fault (Some (Job i)) = omega (arith, length_octal_line job_is i)
length-fault (Some (Stint i)) = omega (arith, length_octal_line stint_is i)
length-fault (Some (PackageField i j)) = rw (length-append (line package_is _)) (omega (arith, length_octal_line package_is i, length_octal_line field_is j))
length-fault (Some (Packages i j)) = rw (length-append (line package_is _)) (omega (arith, length_octal_line package_is i, length_octal_line package_is j))
length-fault (Some (Fields i j)) = rw (length-append (line field_is _)) (omega (arith, length_octal_line field_is i, length_octal_line field_is j))

length-finding : (f : VerdictAndFault) → length (finding_text f) ≤ most_reason_bytes
unfolding finding_text
length-finding f =
    rw (length-append (refused_text (verdict_number f.verdict))) (omega (arith, length-refused (verdict_number f.verdict), length-fault f.fault))

pub length-reason : (found : Found) (q : Request) → length (reason_by found q) ≤ most_reason_bytes
length-reason (Some line) q = omega (arith, length-unreadable line.number line.rule)
length-reason None q = length-finding (finding_of (schedule_in q))

-- ---- what is written

pub writes-unreadable : {w w₁ w₂ after : Writer} {number : ℕ} (n : ℕ) (rule : Rule) → number ≡ refusal_number Refusal.UnreadableLine
    → Writes w (refused_text number) w₁ → Writes w₁ (line line_is (decimal_number n)) w₂ → Writes w₂ (line rule_is (rule_name rule)) after
    → Writes w (unreadable_text n rule) after
unfolding unreadable_text
writes-unreadable n rule e u v x = rw (← e) (writes_three u v x)

pub writes-finding : {w w₁ after : Writer} {number : ℕ} (f : VerdictAndFault) → number ≡ verdict_number f.verdict → Writes w (refused_text number) w₁
    → Writes w₁ (fault_text f.fault) after → Writes w (finding_text f) after
unfolding finding_text
writes-finding f e u v = rw (← e) (writes_then u v)

-- the finding on the schedule that an input asks for
pub finding-wrote : {out out' : List ℕ} {n : ℕ} {c : Central} {f : VerdictAndFault} (q : Request) → c ≡ zero_record
    → f ≡ finding_of (schedule_of q.memory c q.jobs q.stint_jobs q.stint_turns) → Wrote out 0 (finding_text f) out' n
    → Wrote out 0 (finding_text (finding_of (schedule_in q))) out' n
finding-wrote q e g w = rw (← e, ← g) w

-- ---- the buffer

pub reason-short : (bytes out : List ℕ) → length out < most_reason_bytes → written (Err Refusal.ListLength) out ≡ reason_to bytes out
unfolding reason_to
reason-short bytes out h = rw (lt-leb most_reason_bytes (length out) h)

pub reason-written : {out out' bytes : List ℕ} {n : ℕ} → most_reason_bytes ≤ length out → Wrote out 0 bytes out' n
    → written (Ok n) out' ≡ reason_to bytes out
unfolding reason_to
reason-written {out} {out'} {bytes} {n} h w =
    let e : n ≡ length bytes = omega (arith, w.ends) in
    rw (le-leb most_reason_bytes (length out) h, w.is, e)

-- the bytes of a reason are inside the buffer
module _ {o : Output} {out' : List ℕ} {n : ℕ} (t : Tracker) (m : List ℕ) (l : Lists) (out : List ℕ) (e : o ≡ Ok n) where
  count : {w : Written} → written o out' ≡ w → n ≡ bytes_in w.answer
  count f = sym (ap bytes_in e) ∙ ap (λ (x : Written). bytes_in x.answer) f

  reason-fits : (bytes : List ℕ) → length bytes ≤ most_reason_bytes → written o out' ≡ reason_to bytes out → n ≤ length out'
  unfolding reason_to
  reason-fits bytes short f = by-room (leb most_reason_bytes (length out)) refl
    where
      by-room : (b : Bool) → leb most_reason_bytes (length out) ≡ b → n ≤ length out'
      by-room true h =
          let g : written o out' ≡ written (Ok (length bytes)) (sets out 0 bytes) = rw h at f in
          let size : length out' ≡ length out = ap (λ (x : Written). length x.out) g ∙ length-sets out 0 bytes in
          omega (arith, count g, size, leb-true most_reason_bytes (length out) h, short)
      by-room false h =
          let g : written o out' ≡ written (Err Refusal.ListLength) out = rw h at f in
          omega (arith, count g)

  inside-by : (v : Verdict) (bytes : List ℕ) → length bytes ≤ most_reason_bytes → written o out' ≡ explain_by v bytes out → n ≤ length out'
  inside-by (Ok tt) bytes short f = reason-fits bytes short f
  inside-by (Err r) bytes short f = omega (arith, count f)

  pub reason-inside : written o out' ≡ explain_answer t m l out → n ≤ length out'
  unfolding explain_answer
  reason-inside f =
      inside-by (reader_verdict t.reader m l) _ (length-reason (found_by t) (in_use t.reader.progress m l)) f

-- of every reason
pub explained-inside : {out' : List ℕ} (t : Tracker) (m : List ℕ) (l : Lists) (out : List ℕ) (o : Output) → written o out' ≡ explain_answer t m l out
    → IfOk o (λ n. n ≤ length out')
explained-inside t m l out (Ok n) f = reason-inside t m l out refl f
explained-inside t m l out (Err x) f = tt
