-- `shared_fault::lists::first_not_below` meets its contract.
use Rattle.std.proofs.Common.{rules, tests, true, false, ℕ, ltb, ◌≡◌, ◌∙◌}
use Rattle.std.proofs.lemmas.Iterator.{YieldsList-from_slice, IsFirst-from_position}
use Rattle.shared_fault.proofs.Search.{found-position}
use Rattle.shared_fault.proofs.lists.first_not_below.Goals as goal

pub returns : goal.returns
returns c =
    let test = λ (x : ℕ). ltb x c.args.limit in
    let list = c.args.list.now in
    c.unwrap_or.ensures
    ∙ found-position test list c.position.result
    (IsFirst-from_position _ _ c.position.result (λ x. test x ≡ false) (λ x. test x ≡ true) c.position.ensures.ran (YieldsList-from_slice list c.iter.ensures.rest) (λ x q k. search (rules, tests)) (λ x q k. search (rules, tests)))
