-- What is asked of a reader that reads bytes.
use Rattle.std.specs.Prelude.{List, ◌≡◌, ℕ, ◌≤◌, length}
use Rattle.console_grammar.specs.Held.{Lists, CountsFit, Room}
use Rattle.console_reader.specs.declared.reader.Reader.{Reader}

-- the reader's counts are within the room of the lent memory and lists, and of the line
pub record ReaderReady (r : Reader) (m : List ℕ) (l : Lists) : Type 0 where
  pub progress : CountsFit r.progress
  pub room : Room m l
  pub begun : r.length ≤ 32
  pub long : length r.line ≡ 32
