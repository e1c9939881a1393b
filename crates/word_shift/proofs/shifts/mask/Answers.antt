-- `word_shift::shifts::mask` meets its contract.
use Rattle.word_shift.proofs.Machine.{mask_is}
use Rattle.word_shift.proofs.shifts.mask.Goals as goal

pub returns : goal.returns
returns g c = rw (c.complement.ensures, c.ones.ensures) (mask_is g.row.N c.args.k)
