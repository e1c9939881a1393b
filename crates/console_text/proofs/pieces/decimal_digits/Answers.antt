-- `console_text::pieces::decimal_digits` meets its contract.
use mathlib.Core.Path.{◌≡◌}
use native.Mathlib.Omega.{arith}
use lib.ListN.{length-set}
use Rattle.console_text.specs.Laws.Decimal.{decimal-start, decimal-put, decimal-end}
use Rattle.console_text.proofs.pieces.decimal_digits.Goals as goal

pub loop-at-init : goal.loop-at-init
loop-at-init c = decimal-start _ _

pub returns-then-rest-eq0 : goal.returns-then-rest-eq0
returns-then-rest-eq0 c =
    let inv = c.loop-at.invariant in
    let put = decimal-put _ _ _ _ _ inv c.loop-at-test.true in
    (simp length-set (omega (arith, inv.size, inv.most)), put.first c.if-rest-eq0.true)

pub loop-at-preserved : goal.loop-at-preserved
loop-at-preserved c = (decimal-put _ _ _ _ _ c.loop-at.invariant c.loop-at-test.true).more c.if-rest-eq0.false

pub returns : goal.returns
returns c =
    let inv = c.loop-at.invariant in
    let none : c.loop-at.at ≡ 0 = omega arith in
    (omega arith, rw none at (decimal-end inv none))
