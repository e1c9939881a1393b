-- `floating_sum::sums::Sum::moved` meets its contract.
use mathlib.Core.Path.{refl, ap}
use Prim.Native.Nat.{◌+◌, ◌^◌}
use native.Mathlib.Omega.{arith}
use borrow.Author.Tests.{lt-ltb, le-ltb}
use Rattle.floating_word.specs.Halves.{whole}
use Rattle.floating_word.specs.Laws.Halves.{halves_are}
use Rattle.floating_sum.specs.Sums.{moved_of}
use Rattle.floating_sum.specs.Halves.{raised_halves}
use Rattle.floating_sum.proofs.sums.Sum.moved.Goals as goal

pub returns-then-self-lt-OVERFLOW : goal.returns-then-self-lt-OVERFLOW
unfolding moved_of
returns-then-self-lt-OVERFLOW c =
    let s = c.args.self in
    rw (lt-ltb (whole s.size) (2 ^ 96) (omega arith))
    (ap (raised_halves s.minus c.args.biased) (halves_are (whole s.size) c.requires.cut97.low-lt refl))

pub returns-else-self-lt-OVERFLOW : goal.returns-else-self-lt-OVERFLOW
unfolding moved_of
returns-else-self-lt-OVERFLOW c =
    let s = c.args.self in
    rw (le-ltb (whole s.size) (2 ^ 96) (omega arith)) (ap (raised_halves s.minus (c.args.biased + 1)) c.halved.ensures)
