-- `shared_fault::owners::first_past_end` meets its contract.
use Rattle.std.proofs.Common.{rules, tests, true, false, ◌≡◌, ◌∙◌}
use Rattle.std.proofs.lemmas.Iterator.{YieldsList-from_slice, IsFirst-from_position}
use Rattle.exchange_jump.specs.Jump.{package_inside}
use Rattle.shared_fault.proofs.Search.{found-position}
use Rattle.shared_fault.proofs.owners.first_past_end.Goals as goal

pub returns : goal.returns
unfolding package_inside
returns c =
    let test = package_inside c.args.m.now in
    let jobs = c.args.jobs.now in
    c.unwrap_or.ensures
    ∙ found-position test jobs c.position.result
    (IsFirst-from_position _ _ c.position.result (λ x. test x ≡ false) (λ x. test x ≡ true) c.position.ensures.ran (YieldsList-from_slice jobs c.iter.ensures.rest) (λ x q k. search (rules, tests)) (λ x q k. search (rules, tests)))
