-- The last arm of a `match` on the kind of the last line: what the kinds left do with a line.
use Rattle.std.specs.Prelude.{Some}
use Rattle.std.proofs.Common.{◌≡◌, ℕ, refl}
use Rattle.console_line.specs.declared.form.Line.TheVariants.{Words, At, Word, Job, Stint}
use Rattle.console_grammar.specs.Reading.{Request, readable, unreadable, in_jobs, in_stints, with_job, with_stint, at_to, word_to, job_to, line_to}
use Rattle.console_grammar.specs.Held.{reading_at}
use Rattle.console_grammar.specs.declared.progress.Part.{Part}
use Rattle.console_grammar.specs.declared.progress.Part.TheVariants as Last

pub no_words : (part : Part) → (part ≡ Last.Start → ⊥) → (n : ℕ) (q : Request) → line_to (reading_at part q) (Some (Words n)) ≡ unreadable
unfolding line_to
no_words Last.Start k n q = absurd (k refl)
no_words Last.Words k n q = refl
no_words (Last.Block b e) k n q = refl
no_words Last.Jobs k n q = refl
no_words Last.Stints k n q = refl
no_words Last.Unreadable k n q = refl

pub no-at : (part : Part) → (part ≡ Last.Words → ⊥) → ((b e : ℕ) → part ≡ Last.Block b e → ⊥) → (a : ℕ) (q : Request)
    → line_to (reading_at part q) (Some (At a)) ≡ unreadable
unfolding line_to at_to
no-at Last.Start k l a q = refl
no-at Last.Words k l a q = absurd (k refl)
no-at (Last.Block b e) k l a q = absurd (l b e refl)
no-at Last.Jobs k l a q = refl
no-at Last.Stints k l a q = refl
no-at Last.Unreadable k l a q = refl

pub no_word : (part : Part) → ((b e : ℕ) → part ≡ Last.Block b e → ⊥) → (w : ℕ) (q : Request)
    → line_to (reading_at part q) (Some (Word w)) ≡ unreadable
unfolding line_to word_to
no_word Last.Start k w q = refl
no_word Last.Words k w q = refl
no_word (Last.Block b e) k w q = absurd (k b e refl)
no_word Last.Jobs k w q = refl
no_word Last.Stints k w q = refl
no_word Last.Unreadable k w q = refl

pub job-added : (part : Part) → (part ≡ Last.Start → ⊥) → (part ≡ Last.Stints → ⊥) → (part ≡ Last.Unreadable → ⊥) → (a : ℕ) (q : Request)
    → line_to (reading_at part q) (Some (Job a)) ≡ readable in_jobs (with_job q a)
unfolding line_to job_to
job-added Last.Start k l m a q = absurd (k refl)
job-added Last.Words k l m a q = refl
job-added (Last.Block b e) k l m a q = refl
job-added Last.Jobs k l m a q = refl
job-added Last.Stints k l m a q = absurd (l refl)
job-added Last.Unreadable k l m a q = absurd (m refl)

pub stint-added : (part : Part) → (part ≡ Last.Start → ⊥) → (part ≡ Last.Unreadable → ⊥) → (job turns : ℕ) (q : Request)
    → line_to (reading_at part q) (Some (Stint job turns)) ≡ readable in_stints (with_stint q job turns)
unfolding line_to
stint-added Last.Start k l job turns q = absurd (k refl)
stint-added Last.Words k l job turns q = refl
stint-added (Last.Block b e) k l job turns q = refl
stint-added Last.Jobs k l job turns q = refl
stint-added Last.Stints k l job turns q = refl
stint-added Last.Unreadable k l job turns q = absurd (l refl)
