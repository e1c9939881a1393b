-- `central_apply::apply::refer` meets its contract.
use borrow.Author.Tests.{lt-ltb, le-ltb, eq-eqb, ne_eqb}
use lib.Bits.{and_mask}
use Rattle.central_apply.specs.Apply.{referred}
use Rattle.central_apply.proofs.apply.refer.Goals as goal

pub returns-then-field-eq1-clause-value : goal.returns-then-field-eq1-clause-value
unfolding referred
returns-then-field-eq1-clause-value c = rw (c.in_default.is, ← and_mask _ 1, eq-eqb _ 1 c.if-field-eq1.true)

pub returns-then-i-lt6-clause-value : goal.returns-then-i-lt6-clause-value
unfolding referred
returns-then-i-lt6-clause-value c =
    rw (c.in_default.is, ← and_mask _ 1, ne_eqb _ 1 c.if-field-eq1.false, lt-ltb _ 6 c.if-i-lt6.true, c.set_x.ensures)

pub returns-else-i-lt6-clause-value : goal.returns-else-i-lt6-clause-value
unfolding referred
returns-else-i-lt6-clause-value c =
    rw (c.in_default.is, ← and_mask _ 1, ne_eqb _ 1 c.if-field-eq1.false, le-ltb _ 6 c.if-i-lt6.false)

pub returns-then-i-lt6-2-clause-value : goal.returns-then-i-lt6-2-clause-value
unfolding referred
returns-then-i-lt6-2-clause-value c =
    rw (c.in-Some.is, lt-ltb _ 6 c.if-i-lt6-2.true, c.set_x-then-i-lt6-2.ensures, c.read.ensures)

pub returns-else-i-lt6-2-clause-value : goal.returns-else-i-lt6-2-clause-value
unfolding referred
returns-else-i-lt6-2-clause-value c = rw (c.in-Some.is, le-ltb _ 6 c.if-i-lt6-2.false, c.write.ensures.written)
