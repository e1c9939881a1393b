-- `central_apply::apply::set_a` meets its contract.
use borrow.Author.Tests.{eq-eqb, ne_eqb}
use Rattle.central_apply.specs.Apply.{a_set}
use Rattle.central_field.specs.Laws.Address.{place-within}
use Rattle.central_apply.proofs.apply.set_a.Goals as goal

pub returns-then-i-eq0-clause-value : goal.returns-then-i-eq0-clause-value
unfolding a_set
returns-then-i-eq0-clause-value c = rw (eq-eqb _ 0 c.if-i-eq0.true)

pub refer-requires-clause-within : goal.refer-requires-clause-within
refer-requires-clause-within c = rw c.convert-p.ensures (place-within _ _)

pub returns-clause-value : goal.returns-clause-value
unfolding a_set
returns-clause-value c = rw (ne_eqb _ 0 c.if-i-eq0.false, ← c.convert-p.ensures) c.refer.ensures.value
