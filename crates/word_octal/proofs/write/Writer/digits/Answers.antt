-- `word_octal::write::Writer::digits` meets its contract.
use native.Mathlib.Omega.{arith}
use Rattle.word_octal.specs.Laws.Write.{digits-total, digits-next, digits-end}
use Rattle.word_octal.proofs.write.Writer.digits.Goals as goal

pub bounds-self-self : goal.bounds-self-self
bounds-self-self c = omega (arith, digits-total _ _ _ c.loop-k.invariant.1, c.loop-k.invariant.1.same_length)

pub overflow_add-self : goal.overflow_add-self
overflow_add-self c = omega (arith, digits-total _ _ _ c.loop-k.invariant.1)

pub loop-k-preserved : goal.loop-k-preserved
loop-k-preserved c = (c.loop-k.invariant.0, digits-next _ _ _ c.loop-k.invariant.1 c.loop-k-test.true c.digit.ensures)

pub returns : goal.returns
returns c =
    let inv = c.loop-k.invariant in
    record { same_buffer = inv.0; same_length = inv.1.same_length; wrote = digits-end _ _ _ inv.1 (omega arith) }
