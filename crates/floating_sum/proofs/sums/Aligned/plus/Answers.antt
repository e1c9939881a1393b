-- `floating_sum::sums::Aligned::plus` meets its contract.
use mathlib.Core.Bool.{true, false}
use mathlib.Core.Path.{◌≡◌, ap, ◌∙◌}
use native.Mathlib.Omega.{arith}
use Rattle.std.proofs.lemmas.Grind.{common_steps}
use Rattle.floating_word.specs.Halves.{whole}
use Rattle.floating_sum.specs.Sums.{coefficient}
use Rattle.floating_sum.specs.Halves.{signed_halves, cut_sum}
use Rattle.floating_sum.specs.Laws.Sums.{added-alike, added-exchanged}
use Rattle.floating_sum.proofs.sums.Aligned.plus.Goals as goal

pub returns-then-self-other : goal.returns-then-self-other
returns-then-self-other c =
    let a = c.args.self in
    let b = c.args.other in
    let e : b.minus ≡ a.minus = grind (arith, common_steps) in
    rw (e, added-alike a.minus (whole a.size.halves) (whole b.size.halves)) (ap (signed_halves a.minus) c.plus.ensures)

pub returns-then-self : goal.returns-then-self
returns-then-self c =
    let a = c.args.self in
    let b = c.args.other in
    let other : b.minus ≡ false = grind (arith, common_steps) in
    rw (c.if-self.true, other)
    (c.of_unlike.ensures ∙ ap cut_sum (added-exchanged (coefficient false (whole b.size.halves)) (coefficient true (whole a.size.halves))))
