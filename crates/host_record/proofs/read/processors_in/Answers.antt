use Rattle.std.proofs.Common.{rules, ◌≡◌}
use Rattle.base_lists.specs.Laws.Tested.{made-tabulated}
use Rattle.host_record.specs.Layout.{processor_in_machine}
use Rattle.whole_record.specs.Record.{idle}
use Rattle.host_record.proofs.read.processors_in.Goals as goal

pub returns : goal.returns
returns c =
    made-tabulated _ (processor_in_machine c.args.r.now) (λ f. f.0.now ≡ c.args.r.now)
    (λ p q i y h call. search rules) _ _ 10 idle (search rules) c.from_fn.ensures.items
