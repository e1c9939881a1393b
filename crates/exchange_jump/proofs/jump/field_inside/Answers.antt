-- `exchange_jump::jump::field_inside` meets its contract.
use native.Mathlib.Omega.{arith}
use Rattle.exchange_package.specs.Laws.Package.{field-width}
use Rattle.base_lists.specs.Parts.{part}
use Rattle.exchange_jump.specs.Jump.{field_inside}
use Rattle.exchange_jump.proofs.jump.field_inside.Goals as goal

pub overflow_add-result : goal.overflow_add-result
overflow_add-result c =
    let args = c.args in
    let width = rw (← c.load-c.ensures) at (field-width (part args.m.now args.at 16)) in
    omega arith

pub returns : goal.returns
unfolding field_inside
returns c = rw c.load-c.ensures
