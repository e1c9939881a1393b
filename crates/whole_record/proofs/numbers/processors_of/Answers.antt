-- `whole_record::numbers::processors_of` meets its contract.
use Rattle.std.proofs.Common.{rules, ◌≡◌}
use Rattle.base_lists.specs.Laws.Tested.{made-tabulated}
use Rattle.peripheral_machine.specs.Numbers.{processor_of}
use Rattle.whole_record.specs.Record.{idle}
use Rattle.whole_record.proofs.numbers.processors_of.Goals as goal

pub returns : goal.returns
returns c =
    made-tabulated _ (processor_of c.args.s.now.places) (λ f. f.0.now ≡ c.args.s.now) (λ p q i y h call. search rules) _ _ 10 idle (search rules)
    c.from_fn.ensures.items
