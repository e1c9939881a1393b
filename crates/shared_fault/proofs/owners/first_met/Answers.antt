-- `shared_fault::owners::first_met` meets its contract.
use Rattle.std.proofs.Common.{rules, tests, true, false, ◌≡◌, ◌∙◌, length}
use Rattle.std.proofs.lemmas.Iterator.{first_from_Range}
use Rattle.shared_schedule.specs.Refusals.{jobs_apart}
use Rattle.shared_fault.proofs.Search.{found-first}
use Rattle.shared_fault.proofs.owners.first_met.Goals as goal

pub returns : goal.returns
returns c =
    let test = jobs_apart c.args.p.now.memory.now c.args.p.now.jobs.now c.args.i in
    c.unwrap_or.ensures
    ∙ found-first test (length c.args.p.now.jobs.now) c.find.result
    (first_from_Range _ _ _ c.find.result (λ k. test k ≡ false) (λ k. test k ≡ true) c.find.ensures.ran (λ x q k. search (rules, tests)) (λ x q k. search (rules, tests)))
