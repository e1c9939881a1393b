-- `central_record::record::all_below` meets its contract.
use Rattle.std.proofs.Common.{rules, tests, refl, ◌∙◌, ℕ, length}
use lib.Dec.{ltb}
use Rattle.std.proofs.lemmas.Iterator.{YieldsList-from_slice}
use Rattle.std.proofs.lemmas.Iterator.Search.{all_from_yields_List}
use Rattle.base_lists.specs.Laws.Tested.{all-listed}
use Rattle.central_record.proofs.record.all_below.Goals as goal

pub returns : goal.returns
returns c =
    let test = λ (word : ℕ). ltb word c.args.limit in
    all_from_yields_List test _ _ _ c.all.ensures.ran (YieldsList-from_slice c.args.m.now cc) (λ x b q k. search (rules, tests))
    ∙ all-listed test 0 c.args.m.now (length c.args.m.now) refl
