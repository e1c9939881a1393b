-- `word_shift::shifts::rotate_left` meets its contract.
use native.Mathlib.Omega.{arith}
use Rattle.word_shift.proofs.Machine.{rotated}
use Rattle.word_shift.proofs.shifts.rotate_left.Goals as goal

pub returns : goal.returns
returns g c =
    rw (c.from.ensures, c.from-2.ensures, c.ones.ensures)
    (rotated 64 g.row.N c.args.w c.args.k c.requires.0 (omega arith) c.requires.2)
