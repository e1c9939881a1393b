-- The same byte by byte: what a tracker and the memory and lists that are lent to its reader hold after it.
use Rattle.std.specs.Prelude.{Some, None, Bool, true, false, cond, List, [], ◌∷◌, ℕ, ◌+◌, ◌^◌, ◌<◌, eqb, ltb, length, take, Result, Ok, Err}
use Rattle.base_outcome.specs.Numbers.{verdict_number}
use Rattle.base_outcome.specs.Order.{or_else}
use Rattle.base_outcome.specs.declared.refusal.Refusal as Reason
use Rattle.base_outcome.specs.declared.refusal.Refusal.TheVariants as Refusal
use Rattle.base_outcome.specs.Verdict.{Verdict}
use Rattle.console_line.specs.Form.{line_of}
use Rattle.console_grammar.specs.Held.{Lists}
use Rattle.console_grammar.specs.declared.progress.Part.{Part}
use Rattle.console_grammar.specs.declared.progress.Part.TheVariants as Last
use Rattle.console_reader.specs.Fed.{ReaderReady}
use Rattle.console_reader.specs.Reader.{ReaderState, reader_state, empty_reader, byte_fed, reader_verdict}
use Rattle.console_reader.specs.declared.reader.Reader.{Reader}
use Rattle.console_unreadable.specs.Rule.{rule_of}
use Rattle.console_unreadable.specs.declared.rule.Rule.TheVariants.{LineFeed, Empty}
use Rattle.console_unreadable.specs.Unreadable.{Found, line_at}
use Rattle.console_unreadable.specs.declared.tracker.Tracker.{Tracker}

-- the tracker, and the memory and lists that are lent to its reader
pub record TrackerState : Type 0 where
  pub tracker : Tracker
  pub memory : List ℕ
  pub lists : Lists

abbrev pub tracker_state : Tracker → List ℕ → Lists → TrackerState
tracker_state t m l = record { tracker = t; memory = m; lists = l }

-- a reader at the line with the number n, and what was found
abbrev pub tracker_at : ReaderState → ℕ → Found → TrackerState
tracker_at s n f = tracker_state (record { reader = s.reader; line = n; found = f }) s.memory s.lists

abbrev pub empty_tracker : Tracker
empty_tracker = record { reader = empty_reader; line = 1; found = None }

abbrev pub reader_in : TrackerState → ReaderState
reader_in s = reader_state s.tracker.reader s.memory s.lists

abbrev pub is_unreadable : Part → Bool
is_unreadable Last.Start = false
is_unreadable Last.Words = false
is_unreadable (Last.Block begin end) = false
is_unreadable Last.Jobs = false
is_unreadable Last.Stints = false
is_unreadable Last.Unreadable = true

-- the line that a reader has begun
abbrev pub begun_in : ReaderState → List ℕ
begun_in s = take s.reader.length s.reader.line

-- the line with the number n has ended: it is the first unreadable line, or the next line begins
abbrev pub line_ended : ReaderState → ReaderState → ℕ → TrackerState
line_ended before after n =
    cond (is_unreadable after.reader.progress.part)
    (tracker_at after n (Some (line_at n (rule_of before.reader.progress.part (line_of (begun_in before))))))
    (tracker_at after (n + 1) None)

-- a byte, where no unreadable line was found yet
unfoldable pub byte_followed : ReaderState → ℕ → ℕ → TrackerState
byte_followed s n byte = cond (eqb byte 10) (line_ended s (byte_fed s 10) n) (tracker_at (byte_fed s byte) n None)

-- after the first unreadable line nothing is read
abbrev pub byte_by : Found → TrackerState → ℕ → TrackerState
byte_by None s byte = byte_followed (reader_in s) s.tracker.line byte
byte_by (Some line) s byte = s

abbrev pub byte_tracked : TrackerState → ℕ → TrackerState
byte_tracked s byte = byte_by s.tracker.found s byte

unfoldable pub bytes_tracked : TrackerState → List ℕ → TrackerState
bytes_tracked s [] = s
bytes_tracked s (byte ∷ bytes) = bytes_tracked (byte_tracked s byte) bytes

-- numbers 1, 5 and 6 on the reader and what is lent to it; then 6, as for any list of a wrong length, where the number of the line might pass 2^64
unfoldable pub tracker_verdict : Tracker → List ℕ → Lists → List ℕ → Verdict
tracker_verdict t m l bytes =
    or_else (reader_verdict t.reader m l)
    (cond (ltb (t.line + length bytes) (2 ^ 64)) (Ok tt) (Err Refusal.ListLength))

-- what the host gets back: the verdict's number, the verdict, the tracker, the memory and the lists
pub record TrackAnswered : Type 0 where
  pub number : ℕ
  pub verdict : Verdict
  pub tracker : Tracker
  pub memory : List ℕ
  pub lists : Lists

abbrev pub track_answered : Verdict → TrackerState → TrackAnswered
track_answered v s = record { number = verdict_number v; verdict = v; tracker = s.tracker; memory = s.memory; lists = s.lists }

-- of a refused tracker the host has the one that it gave
abbrev pub track_answer_to : Tracker → List ℕ → Lists → Result Tracker Reason.Refusal → TrackAnswered
track_answer_to given m l (Ok t) = track_answered (Ok tt) (tracker_state t m l)
track_answer_to given m l (Err x) = track_answered (Err x) (tracker_state given m l)

-- "After a refusal the state comes back equal"
abbrev pub track_answer_by : Verdict → TrackerState → TrackerState → TrackAnswered
track_answer_by (Ok _) given after = track_answered (Ok tt) after
track_answer_by (Err x) given after = track_answered (Err x) given

-- the next bytes of an input
unfoldable pub track_answer : TrackerState → List ℕ → TrackAnswered
track_answer s bytes = track_answer_by (tracker_verdict s.tracker s.memory s.lists bytes) s (bytes_tracked s bytes)

-- the end of the input, where no unreadable line was found: bytes of a line that has begun, or no line at all
abbrev pub end_of_part : Part → ℕ → Found
end_of_part Last.Start n = Some (line_at n Empty)
end_of_part Last.Words n = None
end_of_part (Last.Block begin end) n = None
end_of_part Last.Jobs n = None
end_of_part Last.Stints n = None
end_of_part Last.Unreadable n = None

abbrev pub end_of_reader : Reader → ℕ → Found
end_of_reader r n = cond (eqb r.length 0) (end_of_part r.progress.part n) (Some (line_at n LineFeed))

abbrev pub end_by : Found → Tracker → Found
end_by None t = end_of_reader t.reader t.line
end_by (Some line) t = Some line

-- what is found, if the input ends here
abbrev pub found_by : Tracker → Found
found_by t = end_by t.found t

-- what is asked of a tracker that reads so many bytes
pub record TrackerReady (t : Tracker) (m : List ℕ) (l : Lists) (n : ℕ) : Type 0 where
  pub reader : ReaderReady t.reader m l
  pub lines : t.line + n < 2 ^ 64
