-- What the console hands back: the answer in a lent buffer, and the lent memory.
use Rattle.std.specs.Prelude.{cond, List, ◌++◌, ◌≡◌, ℕ, ◌+◌, ◌*◌, ◌≤◌, leb, length, drop, Result, Ok, Err}
use Rattle.std.proofs.lemmas.List.Edits.{sets}
use Rattle.base_outcome.specs.Numbers.{refusal_number}
use Rattle.base_outcome.specs.declared.refusal.Refusal as Reason
use Rattle.base_outcome.specs.declared.refusal.Refusal.TheVariants as Refusal
use Rattle.base_outcome.specs.Verdict.{Verdict}
use Rattle.base_lists.specs.Written.{Wrote}
use Rattle.shared_limits.specs.Limits.{most_stints}
use Rattle.shared_schedule.specs.Refusals.{schedule_verdict}
use Rattle.shared_schedule.specs.Schedule.{Schedule}
use Rattle.shared_calls.specs.Answer.{schedule_answer}
use Rattle.shared_calls.specs.Answer.{ScheduleAnswer}
use Rattle.console_grammar.specs.Reading.{Reading, no_line, readable, unreadable}
use Rattle.console_grammar.specs.Held.{Lists}
use Rattle.console_reader.specs.Reader.{reader_verdict, read_at_end}
use Rattle.console_reader.specs.declared.reader.Reader.{Reader}
use Rattle.console_answer.specs.Text.{stints_text, words_text, refused_text}
use Rattle.console_calls.specs.Console.{schedule_in, printed, output_on}

-- the room that every answer fits in: the most stints, each of 93 bytes at most, and 4,096 words of 44 bytes at most
abbrev pub most_bytes : ℕ
most_bytes = 93 * most_stints + 44 * 4096

-- what becomes of the end of an input: how much of the buffer the answer takes up, or why there is none
abbrev pub Output : Type 0
Output = Result ℕ Reason.Refusal

-- the bytes that an answer takes up
abbrev pub bytes_in : Output → ℕ
bytes_in (Ok n) = n
bytes_in (Err r) = 0

-- 0 for an answer. That an input is refused is an answer too, in the buffer: a line `refused=` with its number
abbrev pub output_number : Output → ℕ
output_number (Ok n) = 0
output_number (Err r) = refusal_number r

-- what the host gets back of the buffer: the number, and the answer with its bytes
pub record Written : Type 0 where
  pub number : ℕ
  pub answer : Output
  pub out : List ℕ

abbrev pub written : Output → List ℕ → Written
written answer out = record { number = output_number answer; answer = answer; out = out }

-- the answer stands from the first byte of the buffer on. A buffer that might be too short is 6, as any list of a wrong length, and left as it is
unfoldable pub written_to : List ℕ → List ℕ → Written
written_to bytes out =
    cond (leb most_bytes (length out)) (written (Ok (length bytes)) (sets out 0 bytes)) (written (Err Refusal.ListLength) out)

-- the memory after the schedule of a request; the words past the request's memory stay
unfoldable pub memory_after : Reading → List ℕ → List ℕ
memory_after no_line m = m
memory_after unreadable m = m
memory_after (readable part q) m = (schedule_answer (schedule_in q)).memory ++ drop (length q.memory) m

-- and no schedule is run without room for its answer
unfoldable pub finished_memory : Reading → List ℕ → List ℕ → List ℕ
finished_memory x out m = cond (leb most_bytes (length out)) (memory_after x m) m

pub record Finished : Type 0 where
  pub written : Written
  pub memory : List ℕ

abbrev pub finished : Written → List ℕ → Finished
finished w m = record { written = w; memory = m }

abbrev pub finish_to : Reading → List ℕ → List ℕ → Finished
finish_to x out m = finished (written_to (output_on x) out) (finished_memory x out m)

-- "Lowest number first": 1, 5 and 6 for the reader and the slices that it was lent, then 6 for the buffer. After a refusal nothing changes
abbrev pub finish_by : Verdict → Reading → List ℕ → List ℕ → Finished
finish_by (Ok _) x out m = finish_to x out m
finish_by (Err r) x out m = finished (written (Err r) out) m

unfoldable pub finish_answer : Reader → List ℕ → Lists → List ℕ → Finished
finish_answer r m l out = finish_by (reader_verdict r m l) (read_at_end r m l) out m

-- the lines of an accepted or refused call, by the jobs, the turns made and the stops of its stints and the memory after it
abbrev pub printed_by : Verdict → List ℕ → List ℕ → List ℕ → List ℕ → List ℕ
printed_by (Ok _) js turns stops m = stints_text 0 js turns stops ++ words_text 0 m
printed_by (Err r) js turns stops m = refused_text (refusal_number r)

-- what is asked to print an answer: its room
pub record MayPrint (a : ScheduleAnswer) (js m out : List ℕ) : Type 0 where
  pub stints : a.verdict ≡ Ok tt → length js ≤ most_stints
  pub memory : length m ≤ 4096
  pub room : most_bytes ≤ length out

-- a schedule was run and its answer written
pub record Ran (s : Schedule) (out out' : List ℕ) (n : ℕ) (m' : List ℕ) : Type 0 where
  pub wrote : Wrote out 0 (printed (schedule_verdict s) s) out' n
  pub memory : m' ≡ (schedule_answer s).memory
