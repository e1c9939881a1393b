-- `word_shift::shifts::shift_right_signed` meets its contract.
use Rattle.word_shift.specs.Shifts.{shift_right_signed}
use Rattle.word_shift.proofs.Machine.{or-mask}
use Rattle.word_shift.proofs.shifts.shift_right_signed.Goals as goal

pub returns-then-is_negative : goal.returns-then-is_negative
unfolding shift_right_signed
returns-then-is_negative g c =
    simp (← c.is_negative.ensures, c.if-is_negative.true, c.mask.ensures) (or-mask g.row.N _ _ c.requires.2)
