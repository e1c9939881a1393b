-- What a line leaves in the lent memory and lists: every word and every entry, of every line.
use Rattle.std.specs.Prelude.{Option}
use Rattle.std.specs.Prelude.{List, ◌++◌, ℕ, length, drop}
use Rattle.console_line.specs.declared.form.Line.{Line}
use Rattle.console_grammar.specs.Reading.{Request, Part, Reading, no_line, readable, unreadable, after_words, in_block, in_jobs, in_stints, line_to}
use Rattle.console_grammar.specs.Held.{Lists, lists, held, unreadable_progress, keep}
use Rattle.console_grammar.specs.declared.progress.Part as Last
use Rattle.console_grammar.specs.declared.progress.Part.TheVariants as Kind
use Rattle.console_grammar.specs.declared.progress.Progress.{Progress}

-- how far an input was read, and what is lent to hold it
pub record InputStore : Type 0 where
  pub progress : Progress
  pub memory : List ℕ
  pub lists : Lists

abbrev pub input_store : Progress → List ℕ → Lists → InputStore
input_store p m l = record { progress = p; memory = m; lists = l }

-- a lent list whose first entries are these; the others are as they were
abbrev pub over : List ℕ → List ℕ → List ℕ
over xs l = xs ++ drop (length xs) l

abbrev pub kind_of : Part → Last.Part
kind_of after_words = Kind.Words
kind_of (in_block begin end) = Kind.Block begin end
kind_of in_jobs = Kind.Jobs
kind_of in_stints = Kind.Stints

-- the counts of a request
abbrev pub progress_of : Last.Part → Request → Progress
progress_of kind q =
    record { part = kind; words = length q.memory; jobs = length q.jobs; stints = length q.stint_jobs }

-- the words and entries of a request stand from the first on. An unreadable line changes none
abbrev pub store_reading : Reading → List ℕ → Lists → InputStore
store_reading no_line m l = input_store (record { part = Kind.Start; words = 0; jobs = 0; stints = 0 }) m l
store_reading (readable part q) m l =
    input_store (progress_of (kind_of part) q) (over q.memory m)
    (lists (over q.jobs l.jobs) (over q.stint_jobs l.stint_jobs) (over q.stint_turns l.stint_turns))
store_reading unreadable m l = input_store unreadable_progress m l

-- one line: what the lines so far ask for is read from the store, and what they ask for with this one is put there
unfoldable pub store_line : InputStore → Option Line → InputStore
store_line s line = store_reading (keep (line_to (held s.progress s.memory s.lists) line)) s.memory s.lists
