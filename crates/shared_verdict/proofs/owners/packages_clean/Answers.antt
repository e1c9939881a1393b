-- `shared_verdict::owners::packages_clean` meets its contract.
use Rattle.std.proofs.Common.{rules, tests, refl, ◌∙◌, length}
use Rattle.std.proofs.lemmas.Iterator.{YieldsList-from_slice}
use Rattle.std.proofs.lemmas.Iterator.Search.{all_from_yields_List}
use Rattle.base_lists.specs.Laws.Tested.{all-listed}
use Rattle.std.proofs.lemmas.Iterator.Adapters.{serves_from_places}
use Rattle.shared_verdict.specs.Laws.Owners.{inside-at}
use Rattle.exchange_jump.specs.Jump.{package_clean}
use Rattle.shared_verdict.proofs.owners.packages_clean.Goals as goal

pub all-requires-clause-callable : goal.all-requires-clause-callable
all-requires-clause-callable c =
    serves_from_places (YieldsList-from_slice c.args.jobs.now cc) (λ x q h. search rules)
    (λ x k l e. let inside = inside-at c.args.m.now c.args.jobs.now c.requires x.now k l e in search rules)

pub returns : goal.returns
unfolding package_clean
returns c =
    let test = package_clean c.args.m.now in
    let jobs = c.args.jobs.now in
    all_from_yields_List test _ _ _ c.all.ensures.ran (YieldsList-from_slice jobs cc) (λ x b q k. search (rules, tests)) ∙ all-listed test 0 jobs (length jobs) refl
