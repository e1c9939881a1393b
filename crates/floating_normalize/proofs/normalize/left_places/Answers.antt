-- `floating_normalize::normalize::left_places` meets its contract.
use native.Mathlib.Omega.{arith}
use Rattle.floating_normalize.specs.Laws.Places.{leading_wider}
use Rattle.floating_normalize.proofs.normalize.left_places.Goals as goal

pub overflow_sub-result : goal.overflow_sub-result
overflow_sub-result c = omega (arith, leading_wider 48 16 c.args.size c.requires)

pub returns : goal.returns
returns c = omega (arith, leading_wider 48 16 c.args.size c.requires)
