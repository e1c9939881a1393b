-- Nothing else is read: lines that are read to the end are those that may follow.
use Rattle.std.specs.Prelude.{Option, Some, None}
use Rattle.std.specs.Prelude.{cond, ◌≡◌, refl, ℕ, suc, ◌+◌, ◌≤◌, ◌<◌, leb, ltb, length}
use mathlib.Core.List.{List, [], ◌∷◌, ◌++◌, append_assoc}
use Rattle.std.proofs.Common.{sym, ap, subst, ◌∙◌}
use native.Mathlib.Omega.{arith}
use borrow.Author.Tests.{ltb-true, leb-true}
use Rattle.std.proofs.Math.ListN.{length-set}
use Rattle.console_line.specs.declared.form.Line.{Line}
use Rattle.console_line.specs.declared.form.Line.TheVariants.{Words, At, Word, Job, Stint}
use Rattle.console_grammar.specs.Reading.{Request, Part, after_words, in_block, in_jobs, in_stints, Reading, readable, unreadable, begin_at, at_to, word_to, job_to, with_job, with_stint, line_to}
use Rattle.console_grammar.specs.Grammar.{Block, StintLine, word_lines, block_lines, job_lines, stint_lines, Blocks}
use Rattle.console_grammar.specs.Laws.Follow.{all_lines, rest_lines, Ends, MayFollow, asked, asked-none, with_word, asked-word, asked-job, asked-stint}
use Rattle.console_grammar.specs.Laws.Read.{still-unreadable, passed, passed-both}

passed-below : (a b : ℕ) (r : Reading) (ls : List (Option Line)) {part : Part} {q : Request} {A : Type 0}
    → (a < b → all_lines r ls ≡ readable part q → A) → all_lines (cond (ltb a b) r unreadable) ls ≡ readable part q → A
passed-below a b r ls f e = passed (ltb a b) r ls (λ t. f (ltb-true a b t)) e

abbrev block : ℕ → List ℕ → Block
block at content = record { at = at; content = content }

-- a block that begins at a may follow the part
abbrev MayBegin : Part → ℕ → ℕ → Type 0
MayBegin part n a = (ws : List ℕ) (bs : List Block) (js : List ℕ) → Blocks n (block a ws ∷ bs) → MayFollow part n [] (block a ws ∷ bs) js

-- the lines are what may follow the part, and ask for q' in all
pub record Follows (part : Part) (n : ℕ) (q : Request) (ls : List (Option Line)) (q' : Request) : Type 0 where
  pub words : List ℕ
  pub blocks : List Block
  pub jobs : List ℕ
  pub stints : List StintLine
  pub lines : ls ≡ rest_lines words blocks jobs stints
  pub fits : MayFollow part n words blocks jobs
  pub asks : asked part q words blocks jobs stints ≡ q'

-- a line before lines that may follow it
module _ {n : ℕ} {q : Request} {ls : List (Option Line)} {q' : Request} where
  at_follows : (part : Part) (a : ℕ) → a < n → MayBegin part n a → Follows (in_block a a) n q ls q' → Follows part n q (Some (At a) ∷ ls) q'
  at_follows part a inside fit x =
      record {
        words = [];
        blocks = block a x.words ∷ x.blocks;
        jobs = x.jobs;
        stints = x.stints;
        lines = rw (append_assoc (word_lines x.words) (block_lines x.blocks) (job_lines x.jobs ++ stint_lines x.stints), x.lines);
        fits = fit x.words x.blocks x.jobs (inside, x.fits);
        asks = x.asks;
      }

  word-follows : (b e w : ℕ) → Follows (in_block b (e + 1)) n (with_word q e w) ls q' → Follows (in_block b e) n q (Some (Word w) ∷ ls) q'
  word-follows b e w x =
      let same : e + 1 + length x.words ≡ e + suc (length x.words) = omega arith in
      record {
        words = w ∷ x.words;
        blocks = x.blocks;
        jobs = x.jobs;
        stints = x.stints;
        lines = ap (λ (l : List (Option Line)). Some (Word w) ∷ l) x.lines;
        fits = subst (λ (k : ℕ). Ends b k n x.blocks) same x.fits;
        asks = sym (asked-word q b e w x.words x.blocks x.jobs x.stints) ∙ x.asks;
      }

  job-follows : (part : Part) (a : ℕ) → ((js : List ℕ) → MayFollow part n [] [] js)
      → Follows in_jobs n (with_job q a) ls q' → Follows part n q (Some (Job a) ∷ ls) q'
  job-follows part a fit x =
      let no_words : x.words ≡ [] = x.fits.0 in
      let no_blocks : x.blocks ≡ [] = x.fits.1 in
      record {
        words = [];
        blocks = [];
        jobs = a ∷ x.jobs;
        stints = x.stints;
        lines = ap (λ (l : List (Option Line)). Some (Job a) ∷ l) (rw (no_words, no_blocks) at x.lines);
        fits = fit (a ∷ x.jobs);
        asks = sym (asked-job part q a x.jobs x.stints) ∙ (rw (no_words, no_blocks) at x.asks);
      }

  stint-follows : (part : Part) (job turns : ℕ) → MayFollow part n [] [] []
      → Follows in_stints n (with_stint q job turns) ls q' → Follows part n q (Some (Stint job turns) ∷ ls) q'
  stint-follows part job turns fit x =
      let s : StintLine = record { job = job; turns = turns } in
      let no_words : x.words ≡ [] = x.fits.0 in
      let no_blocks : x.blocks ≡ [] = x.fits.1.0 in
      let no-jobs : x.jobs ≡ [] = x.fits.1.1 in
      record {
        words = [];
        blocks = [];
        jobs = [];
        stints = s ∷ x.stints;
        lines = ap (λ (l : List (Option Line)). Some (Stint job turns) ∷ l) (rw (no_words, no_blocks, no-jobs) at x.lines);
        fits = fit;
        asks = sym (asked-stint part q s x.stints) ∙ (rw (no_words, no_blocks, no-jobs) at x.asks);
      }

-- a block that has begun does not run past the last word
abbrev Begun : Part → ℕ → Type 0
Begun after_words n = Unit {0}
Begun (in_block b e) n = e ≤ n
Begun in_jobs n = Unit {0}
Begun in_stints n = Unit {0}

nothing-fits : (part : Part) (n : ℕ) → Begun part n → MayFollow part n [] [] []
nothing-fits after_words n h = (refl, tt)
nothing-fits (in_block b e) n h = (omega arith, (tt, tt))
nothing-fits in_jobs n h = (refl, refl)
nothing-fits in_stints n h = (refl, (refl, refl))

-- lines that are read to the end, as part' and q', may follow the part that they are read after
module _ (n : ℕ) (part' : Part) (q' : Request) where
  abbrev Read : List (Option Line) → Part → Request → Type 0
  Read ls part q =
      length q.memory ≡ n → Begun part n → all_lines (readable part q) ls ≡ readable part' q' → Follows part n q ls q'

  begin-follows : (ls : List (Option Line)) (part : Part) (q : Request) (a : ℕ) → MayBegin part n a → Read ls (in_block a a) q
      → length q.memory ≡ n → all_lines (begin_at a q) ls ≡ readable part' q' → Follows part n q (Some (At a) ∷ ls) q'
  begin-follows ls part q a fit read l e =
      passed-below a (length q.memory) (readable (in_block a a) q) ls
      (λ inside f. at_follows part a (omega arith) fit (read l (omega arith) f)) e

  pub read-follows : (ls : List (Option Line)) (part : Part) (q : Request) → Read ls part q
  unfolding all_lines line_to at_to word_to job_to
  read-follows [] part q l k e =
      let f : q ≡ q' = cc in
      record { words = []; blocks = []; jobs = []; stints = []; lines = refl; fits = nothing-fits part n k; asks = asked-none part q ∙ f }
  read-follows (Some (Words m) ∷ ls) part q l k e = absurd (still-unreadable ls e)
  read-follows (Some (At a) ∷ ls) after_words q l k e =
      begin-follows ls after_words q a (λ ws bs js h. (refl, h)) (read-follows ls (in_block a a) q) l e
  read-follows (Some (At a) ∷ ls) (in_block b c) q l k e =
      passed-both (ltb b a) (leb c a) (begin_at a q) ls
      (λ s t. begin-follows ls (in_block b c) q a (λ ws bs js h. (omega arith, ((ltb-true b a s, omega (arith, leb-true c a t)), h)))
      (read-follows ls (in_block a a) q) l) e
  read-follows (Some (At a) ∷ ls) in_jobs q l k e = absurd (still-unreadable ls e)
  read-follows (Some (At a) ∷ ls) in_stints q l k e = absurd (still-unreadable ls e)
  read-follows (Some (Word w) ∷ ls) after_words q l k e = absurd (still-unreadable ls e)
  read-follows (Some (Word w) ∷ ls) (in_block b c) q l k e =
      let same = length-set q.memory c w ∙ l in
      passed-below c (length q.memory) (readable (in_block b (c + 1)) (with_word q c w)) ls
      (λ inside f. word-follows b c w (read-follows ls (in_block b (c + 1)) (with_word q c w) same (omega arith) f)) e
  read-follows (Some (Word w) ∷ ls) in_jobs q l k e = absurd (still-unreadable ls e)
  read-follows (Some (Word w) ∷ ls) in_stints q l k e = absurd (still-unreadable ls e)
  read-follows (Some (Job a) ∷ ls) after_words q l k e =
      job-follows after_words a (λ js. nothing-fits after_words n k) (read-follows ls in_jobs (with_job q a) l tt e)
  read-follows (Some (Job a) ∷ ls) (in_block b c) q l k e =
      job-follows (in_block b c) a (λ js. nothing-fits (in_block b c) n k) (read-follows ls in_jobs (with_job q a) l tt e)
  read-follows (Some (Job a) ∷ ls) in_jobs q l k e =
      job-follows in_jobs a (λ js. nothing-fits in_jobs n k) (read-follows ls in_jobs (with_job q a) l tt e)
  read-follows (Some (Job a) ∷ ls) in_stints q l k e = absurd (still-unreadable ls e)
  read-follows (Some (Stint job turns) ∷ ls) part q l k e =
      stint-follows part job turns (nothing-fits part n k) (read-follows ls in_stints (with_stint q job turns) l tt e)
  read-follows (None ∷ ls) part q l k e = absurd (still-unreadable ls e)
