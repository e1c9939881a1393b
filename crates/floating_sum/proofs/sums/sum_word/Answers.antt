-- `floating_sum::sums::sum_word` meets its contract.
use mathlib.Core.Path.{sym, subst}
use native.Mathlib.Omega.{arith}
use Rattle.floating_sum.specs.Halves.{Cut96}
use Rattle.floating_sum.specs.Laws.Sums.{finite-sum-lt}
use Rattle.floating_sum.proofs.sums.sum_word.Goals as goal

pub half-requires : goal.half-requires
half-requires c =
    let x = c.number_in in
    let y = c.number_in-2 in
    subst Cut96 (sym c.finite_sum.ensures)
    (record { high_lt = omega (arith, finite-sum-lt x.result y.result x.ensures.fits y.ensures.fits); low-lt = omega arith })
