use Rattle.std.proofs.Common.{rules, tests, ◌∙◌}
use Rattle.std.proofs.lemmas.Iterator.{YieldsList-from_slice}
use Rattle.std.proofs.lemmas.Iterator.Search.{all_from_yields_List}
use Rattle.base_lists.specs.Laws.Tested.{all-listed}
use Rattle.peripheral_channel.specs.Codes.{disconnected}
use Rattle.peripheral_channel.specs.Fits.{channel_fits}
use Rattle.whole_record.specs.Record.{channels_fit}
use Rattle.whole_verdict.proofs.verdict.channels_fit.Goals as goal

pub returns : goal.returns
unfolding channels_fit
returns c =
    let channels = c.args.channels.now in
    all_from_yields_List channel_fits _ _ _ c.all.ensures.ran (YieldsList-from_slice channels cc) (λ x b q k. search (rules, tests))
    ∙ all-listed channel_fits disconnected channels 12 (search rules)
