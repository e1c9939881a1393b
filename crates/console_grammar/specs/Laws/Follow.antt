-- What may follow the lines read so far, and what is asked for once it has.
use Rattle.std.specs.Prelude.{Option}
use Rattle.std.specs.Prelude.{List, [], ◌∷◌, ◌++◌, map, ◌≡◌, refl, ℕ, ◌+◌, ◌≤◌, length, set, replicate}
use Rattle.std.proofs.Common.{append_assoc, append-nil, add-one}
use Rattle.std.proofs.lemmas.List.Edits.{sets}
use Rattle.console_line.specs.Form.{line_of}
use Rattle.console_line.specs.declared.form.Line.{Line}
use Rattle.console_grammar.specs.Reading.{Request, request, Part, after_words, in_block, in_jobs, in_stints, Reading, with_job, with_stint, line_to, all_to}
use Rattle.console_grammar.specs.Grammar.{Block, StintLine, word_lines, block_lines, job_lines, stint_lines, Above, Blocks, loaded, stint_jobs, stint_turns}

-- the reading of lines, their texts apart
unfoldable pub all_lines : Reading → List (Option Line) → Reading
all_lines r [] = r
all_lines r (line ∷ ls) = all_lines (line_to r line) ls

pub texts-lines : (r : Reading) (texts : List (List ℕ)) → all_to r texts ≡ all_lines r (map line_of texts)
unfolding all_to all_lines
texts-lines r [] = refl
texts-lines r (text ∷ texts) = texts-lines (line_to r (line_of text)) texts

-- what may follow a readable line: words of the block that has begun, blocks, jobs and stints
abbrev pub rest_lines : List ℕ → List Block → List ℕ → List StintLine → List (Option Line)
rest_lines ws bs js ss = word_lines ws ++ (block_lines bs ++ (job_lines js ++ stint_lines ss))

-- a block that begins at b ends at e, in a memory of n words, and these blocks follow
abbrev pub Ends : ℕ → ℕ → ℕ → List Block → Type 0
Ends b e n bs = (e ≤ n) × (Above b e bs × Blocks n bs)

-- what may follow each part of an input
abbrev pub MayFollow : Part → ℕ → List ℕ → List Block → List ℕ → Type 0
MayFollow after_words n ws bs js = (ws ≡ []) × Blocks n bs
MayFollow (in_block b e) n ws bs js = Ends b (e + length ws) n bs
MayFollow in_jobs n ws bs js = (ws ≡ []) × (bs ≡ [])
MayFollow in_stints n ws bs js = (ws ≡ []) × ((bs ≡ []) × (js ≡ []))

-- where the next word of a block goes
abbrev place : Part → ℕ
place after_words = 0
place (in_block b e) = e
place in_jobs = 0
place in_stints = 0

-- what is asked for once these have followed
abbrev pub asked : Part → Request → List ℕ → List Block → List ℕ → List StintLine → Request
asked part q ws bs js ss =
    request (loaded (sets q.memory (place part) ws) bs) (q.jobs ++ js) (q.stint_jobs ++ stint_jobs ss) (q.stint_turns ++ stint_turns ss)

pub asked-none : (part : Part) (q : Request) → asked part q [] [] [] [] ≡ q
asked-none part q = rw (append-nil q.jobs, append-nil q.stint_jobs, append-nil q.stint_turns)

abbrev pub with_word : Request → ℕ → ℕ → Request
with_word q e w = request (set q.memory e w) q.jobs q.stint_jobs q.stint_turns

-- the first of the lines that follow may as well be counted with the lines read
pub asked-word : (q : Request) (b e w : ℕ) (ws : List ℕ) (bs : List Block) (js : List ℕ) (ss : List StintLine)
    → asked (in_block b (e + 1)) (with_word q e w) ws bs js ss ≡ asked (in_block b e) q (w ∷ ws) bs js ss
asked-word q b e w ws bs js ss = rw add-one

pub asked-job : (part : Part) (q : Request) (a : ℕ) (js : List ℕ) (ss : List StintLine)
    → asked in_jobs (with_job q a) [] [] js ss ≡ asked part q [] [] (a ∷ js) ss
asked-job part q a js ss = rw (append_assoc q.jobs (a ∷ []) js)

pub asked-stint : (part : Part) (q : Request) (s : StintLine) (ss : List StintLine)
    → asked in_stints (with_stint q s.job s.turns) [] [] [] ss ≡ asked part q [] [] [] (s ∷ ss)
asked-stint part q s ss =
    rw (append_assoc q.stint_jobs (s.job ∷ []) (stint_jobs ss), append_assoc q.stint_turns (s.turns ∷ []) (stint_turns ss))

-- what words= asks for: "Rest of memory zero"
abbrev pub zeroed : ℕ → Request
zeroed n = request (replicate n 0) [] [] []
