use Rattle.std.proofs.Common.{rules, ◌≡◌}
use Rattle.base_lists.specs.Laws.Tested.{made-tabulated}
use Rattle.host_record.specs.Layout.{register_in_numbers}
use Rattle.host_record.proofs.read.registers_in.Goals as goal

pub returns : goal.returns
returns c =
    made-tabulated _ (register_in_numbers c.args.r.now) (λ f. f.0.now ≡ c.args.r.now)
    (λ p q i y h call. search rules) _ _ 24 0 (search rules) c.from_fn.ensures.items
