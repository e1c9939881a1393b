use Rattle.std.proofs.Common.{rules, refl, ◌∙◌}
use Rattle.std.proofs.lemmas.Iterator.{YieldsList-from_range}
use Rattle.std.proofs.lemmas.Iterator.Search.{all_from_yields_List}
use Rattle.base_lists.specs.Laws.Tested.{all-range}
use Rattle.host_record.specs.Lent.{flags_fit_in_machine, all_flags_fit}
use Rattle.host_record.proofs.read.all_flags_fit.Goals as goal

pub returns : goal.returns
unfolding all_flags_fit
returns c =
    let test = flags_fit_in_machine c.args.r.now in
    all_from_yields_List test _ _ _ c.all.ensures.ran (YieldsList-from_range 0 12 12 refl refl) (λ x b q k. search rules) ∙ all-range test 12
