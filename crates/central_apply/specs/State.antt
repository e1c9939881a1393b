-- What the instructions of a program act on.
use Rattle.std.specs.Prelude.{List, ℕ}

-- the 24 registers, and the words of the field from its first on
pub record State : Type 0 where
  pub registers : List ℕ
  pub field : List ℕ

abbrev pub state : List ℕ → List ℕ → State
state r f = record { registers = r; field = f }
