-- Lines that are refused: nothing is stored.
use Rattle.std.specs.Prelude.{Option, Some}
use Rattle.std.specs.Prelude.{List, ◌≡◌, ℕ, ◌≤◌, ◌<◌}
use Rattle.std.proofs.Common.{le-ltb}
use Rattle.console_line.specs.declared.form.Line.{Line}
use Rattle.console_line.specs.declared.form.Line.TheVariants.{Words, Word}
use Rattle.console_grammar.specs.Reading.{Request, unreadable, word_to, line_to}
use Rattle.console_grammar.specs.Held.{Lists, in_use, reading_at, unreadable_progress, CountsFit}
use Rattle.console_grammar.specs.Store.{store_line}
use Rattle.console_grammar.specs.Applied.{Applied, Begun, LineRead}
use Rattle.console_grammar.specs.Laws.Blocks.{memory-length}
use Rattle.console_grammar.specs.Laws.Words.{words-low, words-high}
use Rattle.console_grammar.specs.declared.progress.Part.TheVariants as Last
use Rattle.console_grammar.specs.declared.progress.Progress.{Progress}

-- a line that may not stand where it does
pub line_refused : {line : Option Line} {p r : Progress} {m : List ℕ} {l : Lists} → r ≡ unreadable_progress
    → ((q : Request) → line_to (reading_at p.part q) line ≡ unreadable) → Applied line p m l r m l
unfolding store_line
line_refused {line} {p} {r} {m} {l} e f = record { is = rw (e, f (in_use p m l)) }

-- a block that would begin past the memory, and a word that would stand past it
pub begun-past : (p r : Progress) (a : ℕ) → CountsFit p → p.words ≤ a → r ≡ unreadable_progress → Begun a p r
begun-past p r a k h e = record { is = λ m l room. rw (e, memory-length p m k room.memory, le-ltb a p.words h) }

module _ {p : Progress} {m : List ℕ} {b e w : ℕ} (k : CountsFit p) (f : p.part ≡ Last.Block b e) where
  pub word-past : {r : Progress} → p.words ≤ e → r ≡ unreadable_progress → LineRead (Some (Word w)) p m r m
  unfolding store_line line_to word_to
  word-past h i l room = record { is = rw (i, f, memory-length p m k room.memory, le-ltb e p.words h) }

-- words= with too few words, or too many
pub words_few : (n : ℕ) (p r : Progress) (m : List ℕ) (l : Lists) → r ≡ unreadable_progress → n < 1 → Applied (Some (Words n)) p m l r m l
words_few n p r m l e h = line_refused e (words-low p.part n h)

pub words_many : (n : ℕ) (p r : Progress) (m : List ℕ) (l : Lists) → r ≡ unreadable_progress → 0o10000 < n → Applied (Some (Words n)) p m l r m l
words_many n p r m l e h = line_refused e (words-high p.part n h)
