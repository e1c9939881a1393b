-- `whole_record::numbers::numbers_of` meets its contract.
use Rattle.std.proofs.Common.{rules, ◌≡◌}
use Rattle.base_lists.specs.Laws.Tested.{made-tabulated}
use Rattle.whole_record.specs.Numbers.{number_of, numbers_of}
use Rattle.whole_record.proofs.numbers.numbers_of.Goals as goal

pub returns : goal.returns
unfolding numbers_of
returns c =
    made-tabulated _ (number_of c.args.r.now) (λ f. f.0.now ≡ c.args.r.now) (λ p q i y h call. search rules) _ _ 84 0 (search rules)
    c.from_fn-places.ensures.items
