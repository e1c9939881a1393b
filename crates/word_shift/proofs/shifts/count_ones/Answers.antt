-- `word_shift::shifts::count_ones` meets its contract.
use mathlib.Core.Path.{◌∙◌}
use Rattle.word_shift.specs.Laws.Shifts.{count-is}
use Rattle.word_shift.proofs.shifts.count_ones.Goals as goal

pub returns : goal.returns
returns g c = c.from.ensures ∙ count-is g.row.N _ c.requires.1
