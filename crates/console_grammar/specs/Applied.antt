-- What the functions that read a line promise: the progress, and each of the lent memory and lists that they are lent.
use Rattle.std.specs.Prelude.{Option, Some}
use Rattle.std.specs.Prelude.{List, ◌≡◌, ℕ}
use Rattle.console_line.specs.declared.form.Line.{Line}
use Rattle.console_line.specs.declared.form.Line.TheVariants.{At, Job, Stint}
use Rattle.console_grammar.specs.Reading.{begin_at}
use Rattle.console_grammar.specs.Held.{Lists, lists, in_use, Room, keep}
use Rattle.console_grammar.specs.Store.{input_store, store_reading, store_line}
use Rattle.console_grammar.specs.declared.progress.Progress.{Progress}

-- a line was read
pub record Applied (line : Option Line) (p : Progress) (m : List ℕ) (l : Lists) (r : Progress) (m' : List ℕ) (l' : Lists) : Type 0 where
  pub is : input_store r m' l' ≡ store_line (input_store p m l) line

-- a block was begun
pub record Begun (a : ℕ) (p r : Progress) : Type 0 where
  pub is : (m : List ℕ) (l : Lists) → Room m l → input_store r m l ≡ store_reading (keep (begin_at a (in_use p m l))) m l

-- words= or word= was read, whatever the lists
abbrev pub LineRead : Option Line → Progress → List ℕ → Progress → List ℕ → Type 0
LineRead line p m r m' = (l : Lists) → Room m l → Applied line p m l r m' l

-- at= was read, whatever the memory and the lists
abbrev pub BeginRead : ℕ → Progress → Progress → Type 0
BeginRead a p r = (m : List ℕ) (l : Lists) → Room m l → Applied (Some (At a)) p m l r m l

-- job= and stint= were read, whatever the memory and the other lists
abbrev pub JobRead : ℕ → Progress → List ℕ → Progress → List ℕ → Type 0
JobRead a p js r js' =
    (m ss ts : List ℕ) → Room m (lists js ss ts) → Applied (Some (Job a)) p m (lists js ss ts) r m (lists js' ss ts)

abbrev pub StintRead : ℕ → ℕ → Progress → List ℕ → List ℕ → Progress → List ℕ → List ℕ → Type 0
StintRead job turns p ss ts r ss' ts' =
    (m js : List ℕ) → Room m (lists js ss ts) → Applied (Some (Stint job turns)) p m (lists js ss ts) r m (lists js ss' ts')
