-- `exchange_package::package::registers_in` meets its contract.
use Rattle.std.proofs.Common.{rules, ◌≡◌}
use Rattle.base_lists.specs.Laws.Tested.{made-tabulated}
use Rattle.exchange_package.specs.Package.{register_in}
use Rattle.exchange_package.proofs.package.registers_in.Goals as goal

pub returns : goal.returns
returns c =
    made-tabulated _ (register_in c.args.w.now) (λ f. f.0.now ≡ c.args.w.now) (λ p q i y h call. search rules) _ _ 24 0 (search rules)
    c.from_fn.ensures.items
