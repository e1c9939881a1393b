-- `central_apply::apply::apply` meets its contract.
use mathlib.Core.Path.{subst}
use Rattle.central_effect.specs.Sound.{CentralSound}
use Rattle.central_apply.specs.Apply.{applied}
use Rattle.central_apply.proofs.apply.apply.Goals as goal

pub return_jump-requires : goal.return_jump-requires
return_jump-requires c = (subst CentralSound c.in-ReturnJump.is c.requires).0

pub set_a-requires : goal.set_a-requires
set_a-requires c = (subst CentralSound c.in-SetA.is c.requires).0

pub set_b-requires : goal.set_b-requires
set_b-requires c = (subst CentralSound c.in-SetB.is c.requires).0

pub set_x-requires : goal.set_x-requires
set_x-requires c = (subst CentralSound c.in-SetX.is c.requires).0

pub set_x-requires-in-SetXB : goal.set_x-requires-in-SetXB
set_x-requires-in-SetXB c = (subst CentralSound c.in-SetXB.is c.requires).0.0

pub set_b-requires-in-SetXB : goal.set_b-requires-in-SetXB
set_b-requires-in-SetXB c = (subst CentralSound c.in-SetXB.is c.requires).1.0

pub returns-in-Pass-clause-value : goal.returns-in-Pass-clause-value
unfolding applied
returns-in-Pass-clause-value c = rw c.in-Pass.is

pub returns-in-Stop-clause-value : goal.returns-in-Stop-clause-value
unfolding applied
returns-in-Stop-clause-value c = rw c.in-Stop.is

pub returns-in-Jump-clause-value : goal.returns-in-Jump-clause-value
unfolding applied
returns-in-Jump-clause-value c = rw c.in-Jump.is

pub returns-in-ReturnJump-clause-value : goal.returns-in-ReturnJump-clause-value
unfolding applied
returns-in-ReturnJump-clause-value c = rw (c.in-ReturnJump.is, ← c.return_jump.ensures.value)

pub returns-in-SetA-clause-value : goal.returns-in-SetA-clause-value
unfolding applied
returns-in-SetA-clause-value c = rw c.in-SetA.is c.set_a.ensures.value

pub returns-in-SetB-clause-value : goal.returns-in-SetB-clause-value
unfolding applied
returns-in-SetB-clause-value c = rw (c.in-SetB.is, c.set_b.ensures)

pub returns-in-SetX-clause-value : goal.returns-in-SetX-clause-value
unfolding applied
returns-in-SetX-clause-value c = rw (c.in-SetX.is, c.set_x.ensures)

pub returns-in-SetXB-clause-value : goal.returns-in-SetXB-clause-value
unfolding applied
returns-in-SetXB-clause-value c = rw (c.in-SetXB.is, c.set_b-in-SetXB.ensures, c.set_x-in-SetXB.ensures)
