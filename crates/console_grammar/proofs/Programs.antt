-- The lines of a program are read: each finds the part that it may follow.
use Rattle.std.specs.Prelude.{Option, Some}
use mathlib.Core.List.{List, [], ◌∷◌, ◌++◌, append_assoc, cons≢nil}
use Rattle.std.specs.Prelude.{◌≡◌, refl, ℕ, suc, ◌+◌, ◌≤◌, ◌<◌, length}
use Rattle.std.proofs.Common.{sym, ap, subst, ◌∙◌, arith, lt-ltb, le-leb, length-set}
use Rattle.std.proofs.lemmas.List.{length-replicate}
use Rattle.console_line.specs.declared.form.Line.{Line}
use Rattle.console_line.specs.declared.form.Line.TheVariants.{Words, At, Word, Job}
use Rattle.console_grammar.specs.Reading.{Request, Part, after_words, in_block, in_jobs, in_stints, Reading, no_line, readable, words_to, at_to, word_to, job_to, with_job, with_stint, line_to}
use Rattle.console_grammar.specs.Grammar.{Block, StintLine, Program, word_lines, block_lines, job_lines, stint_lines, program_lines, block_end, Blocks, request_of}
use Rattle.console_grammar.specs.Laws.Follow.{all_lines, rest_lines, Ends, MayFollow, asked, asked-none, with_word, asked-word, asked-job, asked-stint, zeroed}

-- the lines are read after r, and ask for q
pub record Reads (r : Reading) (ls : List (Option Line)) (q : Request) : Type 0 where
  pub part : Part
  pub is : all_lines r ls ≡ readable part q

-- one line, then the others
reads-next : {r s : Reading} {line : Option Line} {ls : List (Option Line)} {p q : Request} → line_to r line ≡ s → p ≡ q → Reads s ls p
    → Reads r (line ∷ ls) q
unfolding all_lines
reads-next {ls = ls} e f x =
    record { part = x.part; is = ap (λ (r : Reading). all_lines r ls) e ∙ x.is ∙ ap (λ (q : Request). readable x.part q) f }

stints-read : (ss : List StintLine) (part : Part) (q : Request) → Reads (readable part q) (stint_lines ss) (asked part q [] [] [] ss)
unfolding all_lines line_to
stints-read [] part q = record { part = part; is = ap (λ (p : Request). readable part p) (sym (asked-none part q)) }
stints-read (s ∷ ss) part q = reads-next refl (asked-stint part q s ss) (stints-read ss in_stints (with_stint q s.job s.turns))

takes-job : (part : Part) (q : Request) (n a : ℕ) (js : List ℕ) → MayFollow part n [] [] (a ∷ js)
    → line_to (readable part q) (Some (Job a)) ≡ readable in_jobs (with_job q a)
unfolding line_to job_to
takes-job after_words q n a js h = refl
takes-job (in_block b e) q n a js h = refl
takes-job in_jobs q n a js h = refl
takes-job in_stints q n a js h = absurd (cons≢nil h.1.1)

jobs-read : (js : List ℕ) (ss : List StintLine) (part : Part) (q : Request) (n : ℕ) → MayFollow part n [] [] js
    → Reads (readable part q) (job_lines js ++ stint_lines ss) (asked part q [] [] js ss)
jobs-read [] ss part q n h = stints-read ss part q
jobs-read (a ∷ js) ss part q n h =
    reads-next (takes-job part q n a js h) (asked-job part q a js ss) (jobs-read js ss in_jobs (with_job q a) n (refl, refl))

-- at= of a block is read after a part that the block may follow
record TakesAt (part : Part) (q : Request) (n : ℕ) (b : Block) (bs : List Block) : Type 0 where
  is : line_to (readable part q) (Some (At b.at)) ≡ readable (in_block b.at b.at) q
  ends : Ends b.at (block_end b) n bs

takes_at : (part : Part) (q : Request) (n : ℕ) (b : Block) (bs : List Block) (js : List ℕ) → length q.memory ≡ n
    → MayFollow part n [] (b ∷ bs) js → TakesAt part q n b bs
unfolding line_to at_to
takes_at after_words q n b bs js l h = record { is = rw (l, lt-ltb b.at n h.1.0); ends = h.1.1 }
takes_at (in_block begin e) q n b bs js l h =
    record {
      is =
          rw (lt-ltb begin b.at h.1.0.0, le-leb e b.at (omega (arith, h.1.0.1)), l, lt-ltb b.at n h.1.1.0);
      ends = h.1.1.1;
    }
takes_at in_jobs q n b bs js l h = absurd (cons≢nil h.1)
takes_at in_stints q n b bs js l h = absurd (cons≢nil h.1.0)

takes-word : (q : Request) (n b e w : ℕ) → length q.memory ≡ n → e < n
    → line_to (readable (in_block b e) q) (Some (Word w)) ≡ readable (in_block b (e + 1)) (with_word q e w)
unfolding line_to word_to
takes-word q n b e w l h = rw (l, lt-ltb e n h)

-- the words of a block that begins at b, then what follows them
module _ (n b : ℕ) (bs : List Block) (js : List ℕ) (ss : List StintLine) where
  abbrev ReadFrom : List ℕ → Type 0
  ReadFrom ws =
      (e : ℕ) (q : Request) → length q.memory ≡ n → MayFollow (in_block b e) n ws bs js
      → Reads (readable (in_block b e) q) (rest_lines ws bs js ss) (asked (in_block b e) q ws bs js ss)

  words-read : (ws : List ℕ) → ReadFrom [] → ReadFrom ws
  words-read [] follow e q l h = follow e q l h
  words-read (w ∷ ws) follow e q l h =
      let same : e + suc (length ws) ≡ e + 1 + length ws = omega arith in
      reads-next (takes-word q n b e w l (omega (arith, h.0))) (asked-word q b e w ws bs js ss)
      (words-read ws follow (e + 1) (with_word q e w) (length-set q.memory e w ∙ l) (subst (λ (k : ℕ). Ends b k n bs) same h))

blocks-read : (bs : List Block) (js : List ℕ) (ss : List StintLine) (part : Part) (q : Request) (n : ℕ) → length q.memory ≡ n
    → MayFollow part n [] bs js → Reads (readable part q) (rest_lines [] bs js ss) (asked part q [] bs js ss)
blocks-read [] js ss part q n l h = jobs-read js ss part q n h
blocks-read (b ∷ bs) js ss part q n l h =
    let t : TakesAt part q n b bs = takes_at part q n b bs js l h in
    rw (append_assoc (word_lines b.content) (block_lines bs) (job_lines js ++ stint_lines ss))
    (reads-next t.is refl
    (words-read n b.at bs js ss b.content (λ e p k f. blocks-read bs js ss (in_block b.at e) p n k f) b.at q l t.ends))

takes-words : (n : ℕ) → 1 ≤ n → n ≤ 0o10000 → line_to no_line (Some (Words n)) ≡ readable after_words (zeroed n)
unfolding line_to words_to
takes-words n l h = rw (le-leb 1 n l, le-leb n 0o10000 h)

pub program-read : (d : Program) → 1 ≤ d.words → d.words ≤ 0o10000 → Blocks d.words d.blocks
    → Reads no_line (program_lines d) (request_of d)
program-read d l h f =
    reads-next (takes-words d.words l h) refl
    (blocks-read d.blocks d.jobs d.stints after_words (zeroed d.words) d.words (length-replicate d.words 0) (refl, f))
