-- Bytes that are read, and the bytes of a program; the empty input, and how many words a program has. proofs/Grammar.antt shows that the fold
-- over the lines reads the programs of document 01, and nothing else.
use Rattle.std.specs.Prelude.{List, [], ◌∷◌, ◌≡◌, refl, ℕ, length, replicate}
use Rattle.std.proofs.Common.{sym, ◌∙◌}
use Rattle.std.proofs.lemmas.List.{length-replicate}
use Rattle.std.proofs.lemmas.List.Edits.{sets}
use Rattle.std.proofs.Math.Seq.{length-sets}
use Rattle.console_grammar.specs.Lines.{lines_after}
use Rattle.console_grammar.specs.Reading.{Request, Part, no_line, readable, all_to, reading_of}
use Rattle.console_grammar.specs.Grammar.{Block, Program, Readable, loaded, request_of}
use Rattle.console_grammar.specs.Laws.Read.{no_line-unread}

-- the bytes are read, and ask for q
pub record ReadAs (bytes : List ℕ) (q : Request) : Type 0 where
  pub part : Part
  pub is : reading_of bytes ≡ readable part q

-- the bytes are those of a program that asks for q
pub record ProgramOf (bytes : List ℕ) (q : Request) : Type 0 where
  pub program : Program
  pub readable : Readable bytes program
  pub asks : request_of program ≡ q

-- "an empty input" is not read
pub empty-unread : reading_of [] ≡ no_line
unfolding reading_of lines_after all_to
empty-unread = refl

pub empty-unreadable : (part : Part) (q : Request) → reading_of [] ≡ readable part q → ⊥
empty-unreadable part q e = no_line-unread (sym empty-unread ∙ e)

-- a program's memory has the words that it asks for
length-loaded : (m : List ℕ) (bs : List Block) → length (loaded m bs) ≡ length m
length-loaded m [] = refl
length-loaded m (b ∷ bs) = length-loaded (sets m b.at b.content) bs ∙ length-sets m b.at b.content

pub memory-words : (d : Program) → length (request_of d).memory ≡ d.words
memory-words d = length-loaded (replicate d.words 0) d.blocks ∙ length-replicate d.words 0
