-- Why an input is refused, and what the host gets back of it.
use Rattle.std.specs.Prelude.{Some, None, cond, List, [], ℕ, leb, length, Ok, Err}
use Rattle.std.proofs.lemmas.List.Edits.{sets}
use Rattle.base_outcome.specs.declared.refusal.Refusal.TheVariants as Refusal
use Rattle.base_outcome.specs.Verdict.{Verdict}
use Rattle.console_grammar.specs.Held.{Lists, in_use}
use Rattle.console_grammar.specs.Reading.{Request, Reading, no_line, readable, unreadable, reading_of}
use Rattle.console_reader.specs.Reader.{reader_verdict}
use Rattle.console_unreadable.specs.Tracker.{found_by}
use Rattle.console_unreadable.specs.Unreadable.{Found, unreadable_in}
use Rattle.console_unreadable.specs.declared.tracker.Tracker.{Tracker}
use Rattle.console_calls.specs.Console.{schedule_in}
use Rattle.console_calls.specs.Finish.{Written, written}
use Rattle.shared_fault.specs.Fault.{finding_of}
use Rattle.console_reason.specs.Text.{unreadable_text, finding_text}

-- "only 16 is tested ahead of the rest": an unreadable line, or else what is wrong with the schedule of a request
abbrev pub reason_by : Found → Request → List ℕ
reason_by (Some line) q = unreadable_text line.number line.rule
reason_by None q = finding_text (finding_of (schedule_in q))

-- of a reading in which no unreadable line was found: it is readable (`found-exact`)
abbrev pub reason_on : Found → Reading → List ℕ
reason_on (Some line) x = unreadable_text line.number line.rule
reason_on None (readable part q) = finding_text (finding_of (schedule_in q))
reason_on None no_line = []
reason_on None unreadable = []

-- the whole text for a whole input
unfoldable pub reason_of : List ℕ → List ℕ
reason_of bytes = reason_on (unreadable_in bytes) (reading_of bytes)

-- the room that every reason fits in: a line of a refusal, and two lines of the longest name and 22 digits
abbrev pub most_reason_bytes : ℕ
most_reason_bytes = 73

-- it stands from the first byte of the buffer on. A buffer that might be too short is 6, as any list of a wrong length, and left as it is
unfoldable pub reason_to : List ℕ → List ℕ → Written
reason_to bytes out =
    cond (leb most_reason_bytes (length out)) (written (Ok (length bytes)) (sets out 0 bytes)) (written (Err Refusal.ListLength) out)

-- "Lowest number first": 1, 5 and 6 for the reader and the slices that it was lent, then 6 for the buffer
abbrev pub explain_by : Verdict → List ℕ → List ℕ → Written
explain_by (Ok _) bytes out = reason_to bytes out
explain_by (Err r) bytes out = written (Err r) out

unfoldable pub explain_answer : Tracker → List ℕ → Lists → List ℕ → Written
explain_answer t m l out = explain_by (reader_verdict t.reader m l) (reason_by (found_by t) (in_use t.reader.progress m l)) out
