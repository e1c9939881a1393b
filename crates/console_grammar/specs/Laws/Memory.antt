-- The memory that a readable input asks for has 1 to 4,096 words, each of 60 bits.
use Rattle.std.specs.Prelude.{Option}
use Rattle.std.specs.Prelude.{List, [], ◌∷◌, ◌++◌, map, ℕ, zero, suc, ◌^◌, ◌≤◌, ◌<◌, length, get_or, set, replicate}
use Rattle.std.proofs.Common.{subst, arith, lit<}
use Rattle.std.proofs.lemmas.List.Edits.{sets}
use Rattle.base_lists.specs.Laws.Each.{Each, of-get_d}
use Rattle.console_line.specs.Form.{line_of}
use Rattle.console_line.specs.Laws.Widths.{LineFits, line-fits}
use Rattle.console_line.specs.declared.form.Line.{Line}
use Rattle.console_grammar.specs.Grammar.{Block, Program, Readable, word_lines, block_lines, job_lines, stint_lines, loaded, request_of}
use Rattle.console_grammar.specs.Lines.{lines_of}
use Rattle.console_grammar.specs.Laws.Grammar.{memory-words}

-- ---- what each entry of a list has

module _ {A : Type 0} (P : A → Type 0) where
  -- two lists that are joined
  each_first : (xs ys : List A) → Each P (xs ++ ys) → Each P xs
  each_first [] ys h = tt
  each_first (x ∷ xs) ys h = (h.0, each_first xs ys h.1)

  each-second : (xs ys : List A) → Each P (xs ++ ys) → Each P ys
  each-second [] ys h = h
  each-second (x ∷ xs) ys h = each-second xs ys h.1

  each-replicate : (n : ℕ) (x : A) → P x → Each P (replicate n x)
  each-replicate zero x p = tt
  each-replicate (suc n) x p = (p, each-replicate n x p)

  -- a store, and a run of stores
  each_set : (xs : List A) (i : ℕ) (x : A) → P x → Each P xs → Each P (set xs i x)
  each_set [] i x p h = tt
  each_set (y ∷ xs) zero x p h = (p, h.1)
  each_set (y ∷ xs) (suc i) x p h = (h.0, each_set xs i x p h.1)

  each-sets : (xs : List A) (i : ℕ) (ys : List A) → Each P ys → Each P xs → Each P (sets xs i ys)
  each-sets xs i [] g h = h
  each-sets xs i (y ∷ ys) g h = each-sets (set xs i y) (suc i) ys g.1 (each_set xs i y g.0 h)

-- ---- from the lines of an input to its memory

abbrev Below60 : ℕ → Type 0
Below60 w = w < 2 ^ 60

-- every line has values that fit
texts-fit : (texts : List (List ℕ)) → Each LineFits (map line_of texts)
texts-fit [] = tt
texts-fit (text ∷ texts) = (line-fits text, texts-fit texts)

-- so the words of a block have 60 bits
content-below : (ws : List ℕ) → Each LineFits (word_lines ws) → Each Below60 ws
content-below [] h = tt
content-below (w ∷ ws) h = (h.0, content-below ws h.1)

-- and so have those of a memory that the blocks are loaded into
loaded-below : (m : List ℕ) (bs : List Block) → Each LineFits (block_lines bs) → Each Below60 m → Each Below60 (loaded m bs)
loaded-below m [] g h = h
loaded-below m (b ∷ bs) g h =
    let words : List (Option Line) = word_lines b.content in
    loaded-below (sets m b.at b.content) bs (each-second LineFits words (block_lines bs) g.1)
    (each-sets Below60 m b.at b.content (content-below b.content (each_first LineFits words (block_lines bs) g.1)) h)

program-below : (bytes : List ℕ) (d : Program) → Readable bytes d → Each Below60 (request_of d).memory
program-below bytes d r =
    let lines = subst (Each LineFits) r.lines (texts-fit (lines_of bytes).ended) in
    loaded-below (replicate d.words 0) d.blocks
    (each_first LineFits (block_lines d.blocks) (job_lines d.jobs ++ stint_lines d.stints) lines.1)
    (each-replicate Below60 d.words 0 (lit< tt))

-- a memory that the lines words= and word= can ask for
pub record InputMemory (m : List ℕ) : Type 0 where
  pub at_least : 1 ≤ length m
  pub at_most : length m ≤ 0o10000
  pub below : (i : ℕ) → get_or m i 0 < 2 ^ 60

pub readable-memory : (bytes : List ℕ) (d : Program) → Readable bytes d → InputMemory (request_of d).memory
readable-memory bytes d r =
    record {
      at_least = omega (arith, memory-words d, r.at_least);
      at_most = omega (arith, memory-words d, r.at_most);
      below = λ i. of-get_d Below60 (request_of d).memory i 0 (program-below bytes d r) (lit< tt);
    }
