-- `floating_sum::sums::finite_sum` meets its contract.
use mathlib.Core.Path.{◌≡◌, sym, ap, ap₂, ◌∙◌, subst}
use Prim.Native.Nat.{◌^◌, ◌<◌}
use native.Mathlib.Omega.{arith}
use Rattle.floating_word.specs.Halves.{whole}
use Rattle.floating_word.specs.Laws.Halves.{whole-halves}
use Rattle.floating_sum.specs.Sums.{Coefficient, coefficient, added_of, moved_of, finite_sum}
use Rattle.floating_sum.specs.Halves.{aligned_in, sum_in, Cut97, cut_total}
use Rattle.floating_sum.specs.Laws.Sums.{added-lt}
use Rattle.floating_sum.proofs.sums.finite_sum.Goals as goal

pub moved-requires-clause-cut97 : goal.moved-requires-clause-cut97
moved-requires-clause-cut97 c =
    let a = c.beside.result in
    let b = c.beside-2.result in
    let ca = a.size.cut in
    let cb = b.size.cut in
    let l : (added_of (aligned_in a) (aligned_in b)).size < 2 ^ 97 =
    added-lt a.minus b.minus (whole a.size.halves) (whole b.size.halves) (omega (arith, ca.high_lt, ca.low-lt)) (omega (arith, cb.high_lt, cb.low-lt))
    in
    subst Cut97 (sym c.plus-s.ensures) (record { high_lt = omega arith; low-lt = omega arith })

pub returns : goal.returns
unfolding finite_sum
returns c =
    let n : Coefficient = added_of (aligned_in c.beside.result) (aligned_in c.beside-2.result) in
    let s : sum_in c.plus-s.result ≡ n = ap sum_in c.plus-s.ensures ∙ ap (coefficient n.minus) (whole-halves n.size) in
    c.moved.ensures ∙ ap cut_total (ap₂ moved_of (s ∙ ap₂ added_of c.beside.ensures c.beside-2.ensures) c.max.ensures)
