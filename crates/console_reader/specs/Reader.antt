-- The console's input, byte by byte: what a reader and the lent memory and lists hold after it.
use Rattle.std.specs.Prelude.{Bool, true, false, ◌&&◌, cond, List, [], ◌∷◌, ℕ, eqb, leb, length, take, replicate, Result, Ok, Err}
use Rattle.base_outcome.specs.Numbers.{verdict_number}
use Rattle.base_outcome.specs.Order.{or_else}
use Rattle.base_outcome.specs.declared.refusal.Refusal as Reason
use Rattle.base_outcome.specs.declared.refusal.Refusal.TheVariants as Refusal
use Rattle.base_outcome.specs.Verdict.{Verdict}
use Rattle.console_line.specs.Form.{line_of}
use Rattle.console_grammar.specs.Reading.{Reading, ended}
use Rattle.console_grammar.specs.Held.{Lists, held, job_entries, stint_entries}
use Rattle.console_grammar.specs.Store.{InputStore, input_store, store_line}
use Rattle.console_grammar.specs.declared.progress.Part.{Part}
use Rattle.console_grammar.specs.declared.progress.Part.TheVariants as Last
use Rattle.console_grammar.specs.declared.progress.Progress.{Progress}
use Rattle.console_reader.specs.LineBytes.{BegunLine, begun_line, keep_byte}
use Rattle.console_reader.specs.declared.reader.Reader.{Reader}

-- the reader, and the memory and lists that are lent to it
pub record ReaderState : Type 0 where
  pub reader : Reader
  pub memory : List ℕ
  pub lists : Lists

abbrev pub reader_state : Reader → List ℕ → Lists → ReaderState
reader_state r m l = record { reader = r; memory = m; lists = l }

-- a reader with n bytes of a line
abbrev pub with_line : Progress → List ℕ → ℕ → Reader
with_line p line n = record { progress = p; line = line; length = n }

-- a reader that has read nothing
abbrev pub empty_reader : Reader
empty_reader = with_line (record { part = Last.Start; words = 0; jobs = 0; stints = 0 }) (replicate 32 0) 0

-- a line was read, and the next one begins
abbrev pub after_line : List ℕ → InputStore → ReaderState
after_line line t = reader_state (with_line t.progress line 0) t.memory t.lists

abbrev pub after_byte : ReaderState → BegunLine → ReaderState
after_byte s b = reader_state (with_line s.reader.progress b.line b.length) s.memory s.lists

abbrev pub begun_by : Reader → BegunLine
begun_by r = begun_line r.line r.length

-- one byte: "A line feed ends each line"; any other is one of the line that has begun
unfoldable pub byte_fed : ReaderState → ℕ → ReaderState
byte_fed s byte =
    cond (eqb byte 10)
    (after_line s.reader.line
    (store_line (input_store s.reader.progress s.memory s.lists) (line_of (take s.reader.length s.reader.line))))
    (after_byte s (keep_byte (begun_by s.reader) byte))

unfoldable pub bytes_fed : ReaderState → List ℕ → ReaderState
bytes_fed s [] = s
bytes_fed s (byte ∷ bytes) = bytes_fed (byte_fed s byte) bytes

-- the lent lists have their room
abbrev pub lists_long : Lists → Bool
lists_long l = eqb (length l.jobs) job_entries && (eqb (length l.stint_jobs) stint_entries && eqb (length l.stint_turns) stint_entries)

-- the reader's counts are within the room
abbrev pub reader_fits : Reader → Bool
reader_fits r =
    leb r.progress.words 0o10000 && (leb r.progress.jobs job_entries && (leb r.progress.stints stint_entries && leb r.length 32))

-- the rule for slices that document 01 does not describe (`refusal_number`): a memory of another length is 1, a reader with counts past its
-- room is 5, lists of other lengths are 6
unfoldable pub reader_verdict : Reader → List ℕ → Lists → Verdict
reader_verdict r m l =
    or_else (cond (eqb (length m) 0o10000) (Ok tt) (Err Refusal.CentralLength))
    (or_else (cond (reader_fits r) (Ok tt) (Err Refusal.RecordValue))
    (cond (lists_long l) (Ok tt) (Err Refusal.ListLength)))

-- what the host gets back: the verdict's number, the verdict, the reader, the memory and the lists
pub record FeedAnswered : Type 0 where
  pub number : ℕ
  pub verdict : Verdict
  pub reader : Reader
  pub memory : List ℕ
  pub lists : Lists

abbrev pub feed_answered : Verdict → ReaderState → FeedAnswered
feed_answered v s = record { number = verdict_number v; verdict = v; reader = s.reader; memory = s.memory; lists = s.lists }

-- of a refused reader the host has the one that it gave
abbrev pub feed_answer_to : Reader → List ℕ → Lists → Result Reader Reason.Refusal → FeedAnswered
feed_answer_to given m l (Ok r) = feed_answered (Ok tt) (reader_state r m l)
feed_answer_to given m l (Err x) = feed_answered (Err x) (reader_state given m l)

-- "After a refusal the state comes back equal"
abbrev pub feed_answer_by : Verdict → ReaderState → ReaderState → FeedAnswered
feed_answer_by (Ok _) given after = feed_answered (Ok tt) after
feed_answer_by (Err x) given after = feed_answered (Err x) given

-- the next bytes of an input
unfoldable pub feed_answer : ReaderState → List ℕ → FeedAnswered
feed_answer s bytes = feed_answer_by (reader_verdict s.reader s.memory s.lists) s (bytes_fed s bytes)

-- a line was read, and none was unreadable
abbrev pub is_read_part : Part → Bool
is_read_part Last.Start = false
is_read_part Last.Words = true
is_read_part (Last.Block begin end) = true
is_read_part Last.Jobs = true
is_read_part Last.Stints = true
is_read_part Last.Unreadable = false

-- the input is readable, if it ends here: no line has begun
abbrev pub is_complete : Reader → Bool
is_complete r = eqb r.length 0 && is_read_part r.progress.part

-- the reading at the end of the input: bytes of a line that has begun are a line that no line feed ends
abbrev pub read_at_end : Reader → List ℕ → Lists → Reading
read_at_end r m l = ended (take r.length r.line) (held r.progress m l)
