-- `shared_fault::owners::first_not_apart` meets its contract.
use Rattle.std.proofs.Common.{rules, tests, true, false, ℕ, ◌≡◌, ◌∙◌, length}
use Rattle.std.proofs.lemmas.Iterator.{first_from_Range}
use Rattle.base_lists.specs.Indexed.{all_below}
use Rattle.shared_schedule.specs.Refusals.{jobs_apart}
use Rattle.shared_fault.proofs.Search.{found-first}
use Rattle.shared_fault.proofs.owners.first_not_apart.Goals as goal

pub returns : goal.returns
returns c =
    let test = λ (i : ℕ). all_below (length c.args.p.now.jobs.now) (jobs_apart c.args.p.now.memory.now c.args.p.now.jobs.now i) in
    c.unwrap_or.ensures
    ∙ found-first test (length c.args.p.now.jobs.now) c.find.result
    (first_from_Range _ _ _ c.find.result (λ k. test k ≡ false) (λ k. test k ≡ true) c.find.ensures.ran (λ x q k. search (rules, tests)) (λ x q k. search (rules, tests)))
