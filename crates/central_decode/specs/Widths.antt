-- The widths of an instruction's parts.
use Rattle.std.specs.Prelude.{◌≡◌, ◌^◌, ◌<◌}
use Rattle.central_decode.specs.declared.instruction.Instruction.{Instruction}

-- the parts of an instruction have their widths
pub record Fit (q : Instruction) : Type 0 where
  pub code : q.code < 64
  pub i : q.i < 8
  pub j : q.j < 8
  pub k : q.k < 8
  pub jk : q.jk < 64
  pub constant : q.constant < 2 ^ 18

-- q is the instruction w, of those widths
pub record Read (q w : Instruction) : Type 0 where
  pub is : q ≡ w
  pub fit : Fit q
