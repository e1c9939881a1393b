-- The machine that turns act on.
use Rattle.std.specs.Prelude.{List, ℕ}

pub record Machine : Type 0 where
  -- peripheral memory: 4,096 words of one processor, or those of all processors one after the other
  pub peripheral : List ℕ
  -- central memory
  pub central : List ℕ
  -- the 24 registers of the central processor
  pub registers : List ℕ
  -- the rest of the machine's record
  pub numbers : List ℕ

abbrev pub machine : List ℕ → List ℕ → List ℕ → List ℕ → Machine
machine m c x s = record { peripheral = m; central = c; registers = x; numbers = s }

-- what an exchange jump or a central turn can change
pub record CentralSide : Type 0 where
  pub central : List ℕ
  pub registers : List ℕ
  pub numbers : List ℕ

abbrev pub central_side : List ℕ → List ℕ → List ℕ → CentralSide
central_side c x s = record { central = c; registers = x; numbers = s }
