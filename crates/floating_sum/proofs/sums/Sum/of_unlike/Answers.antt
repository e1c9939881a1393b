-- `floating_sum::sums::Sum::of_unlike` meets its contract.
use mathlib.Core.Bool.{true, false}
use mathlib.Core.Path.{ap}
use Prim.Native.Nat.{◌≤◌, ◌<◌}
use native.Mathlib.Omega.{arith}
use Rattle.std.proofs.lemmas.Grind.{common_steps}
use Rattle.floating_word.specs.Halves.{whole}
use Rattle.floating_sum.specs.Halves.{signed_halves}
use Rattle.floating_sum.specs.Laws.Sums.{added-above, added-below}
use Rattle.floating_sum.proofs.sums.Sum.of_unlike.Goals as goal

pub returns-then-lt : goal.returns-then-lt
returns-then-lt c =
    let l : whole c.args.p.halves < whole c.args.q.halves = grind (arith, common_steps) in
    rw (added-below (whole c.args.p.halves) (whole c.args.q.halves) l) (ap (signed_halves true) c.less.ensures)

pub returns-else-lt : goal.returns-else-lt
returns-else-lt c =
    let l : whole c.args.q.halves ≤ whole c.args.p.halves = grind (arith, common_steps) in
    rw (added-above (whole c.args.p.halves) (whole c.args.q.halves) l) (ap (signed_halves false) c.less-else-lt.ensures)
