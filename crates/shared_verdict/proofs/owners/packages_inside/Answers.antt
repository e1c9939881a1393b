-- `shared_verdict::owners::packages_inside` meets its contract.
use Rattle.std.proofs.Common.{rules, tests, refl, ◌∙◌, length}
use Rattle.std.proofs.lemmas.Iterator.{YieldsList-from_slice}
use Rattle.std.proofs.lemmas.Iterator.Search.{all_from_yields_List}
use Rattle.base_lists.specs.Laws.Tested.{all-listed}
use Rattle.exchange_jump.specs.Jump.{package_inside}
use Rattle.shared_verdict.proofs.owners.packages_inside.Goals as goal

pub returns : goal.returns
unfolding package_inside
returns c =
    let test = package_inside c.args.m.now in
    let jobs = c.args.jobs.now in
    all_from_yields_List test _ _ _ c.all.ensures.ran (YieldsList-from_slice jobs cc) (λ x b q k. search (rules, tests)) ∙ all-listed test 0 jobs (length jobs) refl
