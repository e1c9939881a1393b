use Rattle.std.proofs.Common.{rules, tests, ◌∙◌}
use Rattle.std.proofs.lemmas.Iterator.{YieldsList-from_slice}
use Rattle.std.proofs.lemmas.Iterator.Search.{all_from_yields_List}
use Rattle.base_lists.specs.Laws.Tested.{all-listed}
use Rattle.whole_record.specs.Record.{idle}
use Rattle.whole_record.specs.Record.{processor_fits}
use Rattle.whole_record.specs.Record.{processors_fit}
use Rattle.whole_verdict.proofs.verdict.processors_fit.Goals as goal

pub returns : goal.returns
unfolding processors_fit
returns c =
    let processors = c.args.processors.now in
    all_from_yields_List processor_fits _ _ _ c.all.ensures.ran (YieldsList-from_slice processors cc) (λ x b q k. search (rules, tests))
    ∙ all-listed processor_fits idle processors 10 (search rules)
