-- `exchange_package::package::words_have_no_stray` meets its contract.
use Rattle.std.proofs.Common.{rules, tests, refl, ◌∙◌}
use Rattle.std.proofs.lemmas.Iterator.{YieldsList-from_range}
use Rattle.std.proofs.lemmas.Iterator.Search.{all_from_yields_List}
use Rattle.base_lists.specs.Laws.Tested.{all-range}
use Rattle.exchange_package.specs.Package.{word_has_no_stray}
use Rattle.exchange_package.proofs.package.words_have_no_stray.Goals as goal

pub returns : goal.returns
returns c =
    let test = word_has_no_stray c.args.w.now in
    all_from_yields_List test _ _ _ c.all.ensures.ran (YieldsList-from_range 0 8 8 refl refl) (λ x b q k. search (rules, tests)) ∙ all-range test 8
