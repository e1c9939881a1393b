-- `shared_fault::owners::first_field_past_end` meets its contract.
use Rattle.std.proofs.Common.{rules, tests, true, false, ◌≡◌, ◌∙◌}
use Rattle.std.proofs.lemmas.Iterator.{YieldsList-from_slice, IsFirst-from_position}
use Rattle.std.proofs.lemmas.Iterator.Adapters.{serves_from_places}
use Rattle.exchange_jump.specs.Jump.{field_inside}
use Rattle.shared_verdict.specs.Laws.Owners.{inside-at}
use Rattle.shared_fault.proofs.Search.{found-position}
use Rattle.shared_fault.proofs.owners.first_field_past_end.Goals as goal

pub position-requires-clause-callable : goal.position-requires-clause-callable
position-requires-clause-callable c =
    serves_from_places (YieldsList-from_slice c.args.jobs.now cc) (λ x q h. search rules)
    (λ x k l e. let inside = inside-at c.args.m.now c.args.jobs.now c.requires x.now k l e in search rules)

pub returns : goal.returns
returns c =
    let test = field_inside c.args.m.now in
    let jobs = c.args.jobs.now in
    c.unwrap_or.ensures
    ∙ found-position test jobs c.position.result
    (IsFirst-from_position _ _ c.position.result (λ x. test x ≡ false) (λ x. test x ≡ true) c.position.ensures.ran (YieldsList-from_slice jobs c.iter.ensures.rest) (λ x q k. search (rules, tests)) (λ x q k. search (rules, tests)))
