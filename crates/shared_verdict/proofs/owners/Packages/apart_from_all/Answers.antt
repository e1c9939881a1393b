-- `shared_verdict::owners::Packages::apart_from_all` meets its contract.
use Rattle.std.proofs.Common.{rules, tests, arith, refl, ◌∙◌, length}
use Rattle.std.proofs.lemmas.Iterator.{YieldsList-from_range}
use Rattle.std.proofs.lemmas.Iterator.Search.{all_from_yields_List}
use Rattle.base_lists.specs.Laws.Tested.{all-range}
use Rattle.shared_schedule.specs.Refusals.{jobs_apart}
use Rattle.shared_verdict.proofs.owners.Packages.apart_from_all.Goals as goal

pub returns : goal.returns
returns c =
    let jobs = c.args.self.now.jobs.now in
    let test = jobs_apart c.args.self.now.memory.now jobs c.args.i in
    all_from_yields_List test _ _ _ c.all.ensures.ran (YieldsList-from_range 0 (length jobs) (length jobs) refl (omega arith)) (λ x b q k. search (rules, tests))
    ∙ all-range test (length jobs)
