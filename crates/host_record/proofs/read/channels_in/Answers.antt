use Rattle.std.proofs.Common.{rules, ◌≡◌}
use Rattle.base_lists.specs.Laws.Tested.{made-tabulated}
use Rattle.host_record.specs.Layout.{channel_in_machine}
use Rattle.peripheral_channel.specs.Codes.{disconnected}
use Rattle.host_record.proofs.read.channels_in.Goals as goal

pub returns : goal.returns
returns c =
    made-tabulated _ (channel_in_machine c.args.r.now) (λ f. f.0.now ≡ c.args.r.now)
    (λ p q i y h call. search rules) _ _ 12 disconnected (search rules) c.from_fn.ensures.items
