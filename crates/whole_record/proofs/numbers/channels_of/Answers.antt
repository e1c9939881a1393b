-- `whole_record::numbers::channels_of` meets its contract.
use Rattle.std.proofs.Common.{rules, ◌≡◌}
use Rattle.base_lists.specs.Laws.Tested.{made-tabulated}
use Rattle.peripheral_machine.specs.Numbers.{channel_of}
use Rattle.peripheral_channel.specs.Codes.{disconnected}
use Rattle.whole_record.proofs.numbers.channels_of.Goals as goal

pub returns : goal.returns
returns c =
    made-tabulated _ (channel_of c.args.s.now.places) (λ f. f.0.now ≡ c.args.s.now) (λ p q i y h call. search rules) _ _ 12 disconnected (search rules)
    c.from_fn.ensures.items
