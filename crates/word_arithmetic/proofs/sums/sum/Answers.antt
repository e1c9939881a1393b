-- `word_arithmetic::sums::sum` meets its contract.
use mathlib.Core.Path.{sym}
use native.Mathlib.Omega.{arith}
use Rattle.word_arithmetic.specs.Laws.Sums.{sum-plain, sum-carried}
use Rattle.word_arithmetic.proofs.sums.sum.Goals as goal

pub returns-then-plain-ones : goal.returns-then-plain-ones
returns-then-plain-ones g c = sym (sum-plain g.row.N _ _ c.requires.1 c.requires.2 (omega arith))

pub returns-else-plain-ones : goal.returns-else-plain-ones
returns-else-plain-ones g c =
    rw c.ones-else-plain-ones.ensures (sym (sum-carried g.row.N _ _ c.requires.1 c.requires.2 (omega arith)))
