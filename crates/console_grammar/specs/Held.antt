-- What progress, the lent memory and the lent lists hold of an input: the reading of its lines so far.
use Rattle.std.specs.Prelude.{List, ◌≡◌, ℕ, ◌+◌, ◌≤◌, length, take}
use Rattle.shared_limits.specs.Limits.{most_jobs, most_stints}
use Rattle.console_grammar.specs.Reading.{Request, request, Reading, no_line, readable, unreadable, after_words, in_block, in_jobs, in_stints}
use Rattle.console_grammar.specs.declared.progress.Part.{Part}
use Rattle.console_grammar.specs.declared.progress.Part.TheVariants as Last
use Rattle.console_grammar.specs.declared.progress.Progress.{Progress}

-- the lent lists: the jobs, and of each stint the job and the turns
pub record Lists : Type 0 where
  pub jobs : List ℕ
  pub stint_jobs : List ℕ
  pub stint_turns : List ℕ

abbrev pub lists : List ℕ → List ℕ → List ℕ → Lists
lists jobs js ts = record { jobs = jobs; stint_jobs = js; stint_turns = ts }

-- the entries in use
abbrev pub in_use : Progress → List ℕ → Lists → Request
in_use p m l = request (take p.words m) (take p.jobs l.jobs) (take p.stints l.stint_jobs) (take p.stints l.stint_turns)

abbrev pub reading_at : Part → Request → Reading
reading_at Last.Start q = no_line
reading_at Last.Words q = readable after_words q
reading_at (Last.Block begin end) q = readable (in_block begin end) q
reading_at Last.Jobs q = readable in_jobs q
reading_at Last.Stints q = readable in_stints q
reading_at Last.Unreadable q = unreadable

-- the reading that progress, memory and lists hold. It does not depend on entries that are not in use, nor on any once a line
-- was unreadable
abbrev pub held : Progress → List ℕ → Lists → Reading
held p m l = reading_at p.part (in_use p m l)

abbrev pub unreadable_progress : Progress
unreadable_progress = record { part = Last.Unreadable; words = 0; jobs = 0; stints = 0 }

abbrev pub jobs_in_use : Progress → ℕ → Progress
jobs_in_use p n = record { part = Last.Jobs; words = p.words; jobs = n; stints = p.stints }

abbrev pub stints_in_use : Progress → ℕ → Progress
stints_in_use p n = record { part = Last.Stints; words = p.words; jobs = p.jobs; stints = n }

-- the lengths of the lent lists: one entry more than a schedule may have, so that a list that is too long is kept too long
abbrev pub job_entries : ℕ
job_entries = most_jobs + 1

abbrev pub stint_entries : ℕ
stint_entries = most_stints + 1

-- the counts are within the lent memory and lists
pub record CountsFit (p : Progress) : Type 0 where
  pub words : p.words ≤ 0o10000
  pub jobs : p.jobs ≤ job_entries
  pub stints : p.stints ≤ stint_entries

-- the lent memory has the most words that an input may ask for, 10000 octal
pub record Room (m : List ℕ) (l : Lists) : Type 0 where
  pub memory : length m ≡ 0o10000
  pub jobs : length l.jobs ≡ job_entries
  pub stint_jobs : length l.stint_jobs ≡ stint_entries
  pub stint_turns : length l.stint_turns ≡ stint_entries

-- the jobs and stints that the lists have room for
abbrev pub firsts : Request → Request
firsts q = request q.memory (take job_entries q.jobs) (take stint_entries q.stint_jobs) (take stint_entries q.stint_turns)

abbrev pub keep : Reading → Reading
keep no_line = no_line
keep (readable part q) = readable part (firsts q)
keep unreadable = unreadable
