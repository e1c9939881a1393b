-- `floating_sum::sums::Total::half` meets its contract.
use mathlib.Core.Path.{ap, ◌∙◌}
use native.Mathlib.Omega.{arith}
use Rattle.floating_sum.specs.Sums.{half_of}
use Rattle.floating_word.specs.Number.{word_of}
use Rattle.floating_sum.proofs.sums.Total.half.Goals as goal

pub returns-then-lower : goal.returns-then-lower
unfolding half_of
returns-then-lower c =
    let t = c.args.self in
    rw c.if-lower.true (c.word_of.ensures ∙ ap (word_of t.minus t.biased 48) (omega (arith, c.requires.low-lt)))

pub returns-else-lower : goal.returns-else-lower
unfolding half_of
returns-else-lower c =
    let t = c.args.self in
    rw c.if-lower.false (c.word_of-else-lower.ensures ∙ ap (word_of t.minus t.biased 0) (omega (arith, c.requires.low-lt)))
