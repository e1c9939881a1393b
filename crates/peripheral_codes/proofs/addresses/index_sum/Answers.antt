-- `peripheral_codes::addresses::index_sum` meets its contract.
use native.Mathlib.Omega.{arith}
use Rattle.peripheral_codes.specs.Laws.IndexSum.{index-plain, index-carried}
use Rattle.peripheral_codes.proofs.addresses.index_sum.Goals as goal

pub returns-then-plain-le4095 : goal.returns-then-plain-le4095
returns-then-plain-le4095 c = omega (arith, index-plain 12 c.args.base c.args.index (omega (arith, c.if-plain-le4095.true)))

pub returns-else-plain-le4095 : goal.returns-else-plain-le4095
returns-else-plain-le4095 c = omega (arith, index-carried 12 c.args.base c.args.index (omega (arith, c.if-plain-le4095.false)))
