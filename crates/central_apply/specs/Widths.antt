-- The widths that the functions ask for. That effects keep them is proved in proofs/Widths.antt, and that turns do in `central_turn`.
use Rattle.std.specs.Prelude.{List, ◌≡◌, ℕ, ◌+◌, ◌^◌, ◌≤◌, ◌<◌, get_or, length}
use Rattle.central_registers.specs.Widths.{Wide}
use Rattle.central_apply.specs.State.{State}
use Rattle.central_field.specs.declared.address.Bounds.{Bounds}

-- every word has 60 bits
pub record Words (f : List ℕ) : Type 0 where
  pub word : (i : ℕ) → get_or f i 0 < 2 ^ 60

-- registers and field have their widths, and the field n words
pub record StateKept (n : ℕ) (s : State) : Type 0 where
  pub wide : Wide s.registers
  pub words : Words s.field
  pub size : length s.field ≡ n

-- the part lent is a field of central memory
pub record Lent (b : Bounds) (f : List ℕ) : Type 0 where
  pub size : length f ≡ b.fl
  pub room : b.ra + b.fl ≤ 131072
