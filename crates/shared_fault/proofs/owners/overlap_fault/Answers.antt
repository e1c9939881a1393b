-- `shared_fault::owners::overlap_fault` meets its contract.
use Rattle.shared_fault.proofs.OwnerFaults.{first-pair}
use Rattle.shared_fault.proofs.owners.overlap_fault.Goals as goal

pub first_met-j-requires : goal.first_met-j-requires
first_met-j-requires c = rw c.first_not_apart-i.ensures (first-pair _ _ c.requires).one.in-range

pub pair_fault-requires : goal.pair_fault-requires
pair_fault-requires c =
    let first = first-pair _ _ c.requires in
    rw (c.first_met-j.ensures, c.first_not_apart-i.ensures) (first.one.in-range, first.other.in-range)

pub returns : goal.returns
returns c = rw (← c.first_not_apart-i.ensures, ← c.first_met-j.ensures) c.pair_fault.ensures
