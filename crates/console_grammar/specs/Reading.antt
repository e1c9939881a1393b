-- What the lines of an input ask for, read in order.
use Rattle.std.specs.Prelude.{Option, Some, None}
use Rattle.std.specs.Prelude.{◌&&◌, cond, List, [], ◌∷◌, ◌++◌, ℕ, ◌+◌, leb, ltb, length, set, replicate}
use Rattle.console_line.specs.Form.{line_of}
use Rattle.console_line.specs.declared.form.Line.{Line}
use Rattle.console_line.specs.declared.form.Line.TheVariants.{Words, At, Word, Job, Stint}
use Rattle.console_grammar.specs.Lines.{lines_of}

-- the memory, the jobs by the addresses of their packages, the stints by job and turns
pub record Request : Type 0 where
  pub memory : List ℕ
  pub jobs : List ℕ
  pub stint_jobs : List ℕ
  pub stint_turns : List ℕ

abbrev pub request : List ℕ → List ℕ → List ℕ → List ℕ → Request
request memory jobs js ts = record { memory = memory; jobs = jobs; stint_jobs = js; stint_turns = ts }

-- the kind of the last line; of a block the address where it begins and the address after its last word
pub data Part : Type 0 where
  after_words : Part
  in_block : ℕ → ℕ → Part
  in_jobs : Part
  in_stints : Part

-- what the lines so far ask for, if they are readable
pub data Reading : Type 0 where
  no_line : Reading
  readable : Part → Request → Reading
  unreadable : Reading

-- "one words= (1 to 10000)": the limit is octal. "Rest of memory zero"
unfoldable pub words_to : ℕ → Reading
words_to n = cond (leb 1 n && leb n 0o10000) (readable after_words (request (replicate n 0) [] [] [])) unreadable

-- no block begins past the last word
abbrev pub begin_at : ℕ → Request → Reading
begin_at a q = cond (ltb a (length q.memory)) (readable (in_block a a) q) unreadable

-- no block begins "at or below the block before it or below that block's end"
unfoldable pub at_to : Part → Request → ℕ → Reading
at_to after_words q a = begin_at a q
at_to (in_block begin end) q a = cond (ltb begin a && leb end a) (begin_at a q) unreadable
at_to in_jobs q a = unreadable
at_to in_stints q a = unreadable

-- no block runs past the last word
unfoldable pub word_to : Part → Request → ℕ → Reading
word_to (in_block begin end) q w =
    cond (ltb end (length q.memory))
    (readable (in_block begin (end + 1)) (request (set q.memory end w) q.jobs q.stint_jobs q.stint_turns))
    unreadable
word_to after_words q w = unreadable
word_to in_jobs q w = unreadable
word_to in_stints q w = unreadable

abbrev pub with_job : Request → ℕ → Request
with_job q a = request q.memory (q.jobs ++ (a ∷ [])) q.stint_jobs q.stint_turns

unfoldable pub job_to : Part → Request → ℕ → Reading
job_to after_words q a = readable in_jobs (with_job q a)
job_to (in_block begin end) q a = readable in_jobs (with_job q a)
job_to in_jobs q a = readable in_jobs (with_job q a)
job_to in_stints q a = unreadable

abbrev pub with_stint : Request → ℕ → ℕ → Request
with_stint q job turns = request q.memory q.jobs (q.stint_jobs ++ (job ∷ [])) (q.stint_turns ++ (turns ∷ []))

-- a line after readable lines
abbrev pub next_to : Part → Request → Option Line → Reading
next_to part q (Some (Words n)) = unreadable
next_to part q (Some (At a)) = at_to part q a
next_to part q (Some (Word w)) = word_to part q w
next_to part q (Some (Job a)) = job_to part q a
next_to part q (Some (Stint job turns)) = readable in_stints (with_stint q job turns)
next_to part q None = unreadable

abbrev pub first_to : Option Line → Reading
first_to (Some (Words n)) = words_to n
first_to (Some (At a)) = unreadable
first_to (Some (Word w)) = unreadable
first_to (Some (Job a)) = unreadable
first_to (Some (Stint job turns)) = unreadable
first_to None = unreadable

unfoldable pub line_to : Reading → Option Line → Reading
line_to no_line line = first_to line
line_to (readable part q) line = next_to part q line
line_to unreadable line = unreadable

unfoldable pub all_to : Reading → List (List ℕ) → Reading
all_to r [] = r
all_to r (text ∷ texts) = all_to (line_to r (line_of text)) texts

-- bytes after the last line feed are a line that no line feed ends
abbrev pub ended : List ℕ → Reading → Reading
ended [] r = r
ended (byte ∷ rest) r = unreadable

unfoldable pub reading_of : List ℕ → Reading
reading_of bytes = ended (lines_of bytes).rest (all_to no_line (lines_of bytes).ended)
