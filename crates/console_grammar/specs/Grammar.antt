-- The inputs that are readable, as document 01 lists their lines.
use Rattle.std.specs.Prelude.{Option, Some}
use Rattle.std.specs.Prelude.{List, [], ◌∷◌, ◌++◌, map, ◌≡◌, ℕ, ◌+◌, ◌≤◌, ◌<◌, length, replicate}
use Rattle.std.proofs.lemmas.List.Edits.{sets}
use Rattle.console_line.specs.Form.{line_of}
use Rattle.console_line.specs.declared.form.Line.{Line}
use Rattle.console_line.specs.declared.form.Line.TheVariants.{Words, At, Word, Job, Stint}
use Rattle.console_grammar.specs.Lines.{lines_of}
use Rattle.console_grammar.specs.Reading.{Request, request}

pub record Block : Type 0 where
  pub at : ℕ
  pub content : List ℕ

pub record StintLine : Type 0 where
  pub job : ℕ
  pub turns : ℕ

pub record Program : Type 0 where
  pub words : ℕ
  pub blocks : List Block
  pub jobs : List ℕ
  pub stints : List StintLine

-- "lines in this order: one words= (1 to 10000), any blocks of one at= (address) and its word= lines (none or more, 20 digits),
-- any job= (package address), any stint=job,turns"
abbrev pub word_lines : List ℕ → List (Option Line)
word_lines ws = map (λ (w : ℕ). Some (Word w)) ws

abbrev pub block_lines : List Block → List (Option Line)
block_lines [] = []
block_lines (b ∷ bs) = Some (At b.at) ∷ (word_lines b.content ++ block_lines bs)

abbrev pub job_lines : List ℕ → List (Option Line)
job_lines jobs = map (λ (a : ℕ). Some (Job a)) jobs

abbrev pub stint_lines : List StintLine → List (Option Line)
stint_lines stints = map (λ (s : StintLine). Some (Stint s.job s.turns)) stints

abbrev pub program_lines : Program → List (Option Line)
program_lines d = Some (Words d.words) ∷ (block_lines d.blocks ++ (job_lines d.jobs ++ stint_lines d.stints))

-- no block "begins at or below the block before it or below that block's end", of which the address where it begins and the one after
-- its last word are given
abbrev pub Above : ℕ → ℕ → List Block → Type 0
Above begin after [] = Unit {0}
Above begin after (next ∷ bs) = (begin < next.at) × (after ≤ next.at)

-- the address after the last word of a block
abbrev pub block_end : Block → ℕ
block_end b = b.at + length b.content

-- nor is there "one that begins or runs past the last word of memory", which has n words
abbrev pub Blocks : ℕ → List Block → Type 0
Blocks n [] = Unit {0}
Blocks n (b ∷ bs) = (b.at < n) × ((block_end b ≤ n) × (Above b.at (block_end b) bs × Blocks n bs))

-- an input of which "A line feed ends each line", and whose lines are those of a program
pub record Readable (bytes : List ℕ) (d : Program) : Type 0 where
  pub all-ended : (lines_of bytes).rest ≡ []
  pub lines : map line_of (lines_of bytes).ended ≡ program_lines d
  pub at_least : 1 ≤ d.words
  pub at_most : d.words ≤ 0o10000
  pub blocks : Blocks d.words d.blocks

-- the words of each block, from its address on
abbrev pub loaded : List ℕ → List Block → List ℕ
loaded memory [] = memory
loaded memory (b ∷ bs) = loaded (sets memory b.at b.content) bs

abbrev pub stint_jobs : List StintLine → List ℕ
stint_jobs stints = map (λ (s : StintLine). s.job) stints

abbrev pub stint_turns : List StintLine → List ℕ
stint_turns stints = map (λ (s : StintLine). s.turns) stints

-- what a program asks for. "Rest of memory zero"
abbrev pub request_of : Program → Request
request_of d = request (loaded (replicate d.words 0) d.blocks) d.jobs (stint_jobs d.stints) (stint_turns d.stints)
