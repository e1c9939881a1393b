-- The lines job= and stint=: one entry more, or a list that is full.
use Rattle.std.specs.Prelude.{Some}
use Rattle.std.specs.Prelude.{List, [], ◌∷◌, ◌++◌, ◌≡◌, ℕ, ◌+◌, ◌≤◌, ◌<◌, length, take, set}
use Rattle.std.proofs.Common.{arith}
use Rattle.console_line.specs.declared.form.Line.TheVariants.{Job, Stint}
use Rattle.console_grammar.specs.Reading.{Request, readable, unreadable, in_jobs, in_stints, job_to, with_job, with_stint, line_to}
use Rattle.console_grammar.specs.Held.{lists, in_use, reading_at, jobs_in_use, stints_in_use, CountsFit, firsts, job_entries, stint_entries}
use Rattle.console_grammar.specs.Store.{store_line}
use Rattle.console_grammar.specs.Applied.{JobRead, StintRead}
use Rattle.console_grammar.specs.Laws.Store.{Laid, laid-first, laid_same, laid-entry, laid-full, store-readable}
use Rattle.console_grammar.specs.declared.progress.Part.{Part}
use Rattle.console_grammar.specs.declared.progress.Part.TheVariants as Last
use Rattle.console_grammar.specs.declared.progress.Progress.{Progress}

-- no job or stint before words=, and no job after a stint
pub job-first : (part : Part) (a : ℕ) → part ≡ Last.Start → (q : Request) → line_to (reading_at part q) (Some (Job a)) ≡ unreadable
unfolding line_to
job-first part a e q = rw e

pub job-late : (part : Part) (a : ℕ) → part ≡ Last.Stints → (q : Request) → line_to (reading_at part q) (Some (Job a)) ≡ unreadable
unfolding line_to job_to
job-late part a e q = rw e

pub stint-first : (part : Part) (job turns : ℕ) → part ≡ Last.Start → (q : Request)
    → line_to (reading_at part q) (Some (Stint job turns)) ≡ unreadable
unfolding line_to
stint-first part job turns e q = rw e

-- a job more
module _ {p : Progress} {a : ℕ} {js : List ℕ} (long : length js ≡ job_entries) (k : CountsFit p)
    (added : (q : Request) → line_to (reading_at p.part q) (Some (Job a)) ≡ readable in_jobs (with_job q a)) where
  job-stored : (n : ℕ) (js' : List ℕ) → Laid n (take job_entries (take p.jobs js ++ (a ∷ []))) js js' → JobRead a p js (jobs_in_use p n) js'
  unfolding store_line
  job-stored n js' e m ss ts room =
      record {
        is =
            rw (added (in_use p m (lists js ss ts)))
            (store-readable in_jobs (firsts (with_job (in_use p m (lists js ss ts)) a)) (laid-first p.words m (omega (arith, k.words, room.memory))) e
            (laid_same p.stints stint_entries ss k.stints (omega (arith, k.stints, room.stint_jobs)))
            (laid_same p.stints stint_entries ts k.stints (omega (arith, k.stints, room.stint_turns))));
      }

  pub job-kept : p.jobs < job_entries → JobRead a p js (jobs_in_use p (p.jobs + 1)) (set js p.jobs a)
  job-kept h = job-stored (p.jobs + 1) (set js p.jobs a) (laid-entry p.jobs job_entries js a long h)

  pub job-over : job_entries ≤ p.jobs → JobRead a p js (jobs_in_use p p.jobs) js
  job-over h = job-stored p.jobs js (laid-full p.jobs job_entries js a long (omega (arith, k.jobs)))

-- a stint more
module _ {p : Progress} {job turns : ℕ} {ss ts : List ℕ} (long : length ss ≡ stint_entries) (long' : length ts ≡ stint_entries) (k : CountsFit p)
    (added : (q : Request) → line_to (reading_at p.part q) (Some (Stint job turns)) ≡ readable in_stints (with_stint q job turns)) where
  stint-stored : (n : ℕ) (ss' ts' : List ℕ) → Laid n (take stint_entries (take p.stints ss ++ (job ∷ []))) ss ss'
      → Laid n (take stint_entries (take p.stints ts ++ (turns ∷ []))) ts ts' → StintRead job turns p ss ts (stints_in_use p n) ss' ts'
  unfolding store_line
  stint-stored n ss' ts' e f m js room =
      record {
        is =
            rw (added (in_use p m (lists js ss ts)))
            (store-readable in_stints (firsts (with_stint (in_use p m (lists js ss ts)) job turns)) (laid-first p.words m (omega (arith, k.words, room.memory)))
            (laid_same p.jobs job_entries js k.jobs (omega (arith, k.jobs, room.jobs))) e f);
      }

  pub stint-kept : p.stints < stint_entries
      → StintRead job turns p ss ts (stints_in_use p (p.stints + 1)) (set ss p.stints job) (set ts p.stints turns)
  stint-kept h =
      stint-stored (p.stints + 1) (set ss p.stints job) (set ts p.stints turns)
      (laid-entry p.stints stint_entries ss job long h) (laid-entry p.stints stint_entries ts turns long' h)

  pub stint-over : stint_entries ≤ p.stints → StintRead job turns p ss ts (stints_in_use p p.stints) ss ts
  stint-over h =
      stint-stored p.stints ss ts (laid-full p.stints stint_entries ss job long (omega (arith, k.stints)))
      (laid-full p.stints stint_entries ts turns long' (omega (arith, k.stints)))
