-- `word_arithmetic::sums::low` meets its contract.
use lib.Bits.{and_mask}
use Rattle.word_arithmetic.proofs.sums.low.Goals as goal

pub returns : goal.returns
returns g c = rw c.ones.ensures (and_mask _ g.row.N)
