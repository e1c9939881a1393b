-- `central_apply::apply::return_jump` meets its contract.
use mathlib.Core.Path.{subst, sym, ◌∙◌}
use Rattle.std.specs.Prelude.{Option}
use Rattle.central_apply.specs.Apply.{return_jumped}
use Rattle.central_field.specs.Laws.Address.{place-within}
use Rattle.central_field.specs.Address.{Within}
use Rattle.central_field.specs.declared.address.Absolute.{Absolute}
use Rattle.central_apply.proofs.apply.return_jump.Goals as goal

pub write-requires : goal.write-requires
write-requires c =
    subst (λ (p : Option Absolute). Within c.args.field.now.bounds p) (sym c.convert.ensures ∙ c.in-Some.is) (place-within _ _)

pub returns-clause-value : goal.returns-clause-value
unfolding return_jumped
returns-clause-value c = rw (← c.convert.ensures, c.in-Some.is, c.write.ensures.written)

pub returns-in_default-clause-value : goal.returns-in_default-clause-value
unfolding return_jumped
returns-in_default-clause-value c = rw (← c.convert.ensures, c.in_default.is)
