-- `peripheral_codes::addresses::OwnMemory::indexed` meets its contract.
use Rattle.std.proofs.Common.{rules}
use Rattle.peripheral_codes.specs.Addresses.{indexed}
use Rattle.peripheral_codes.specs.Laws.IndexSum.{index-lt}
use Rattle.peripheral_codes.proofs.addresses.OwnMemory.indexed.Goals as goal

pub returns : goal.returns
unfolding indexed
returns c =
    let second = c.second-base in
    let index = c.read in
    record {
      is = search (rules, second.ensures.is, index.ensures.is);
      short = rw c.index_sum.ensures (index-lt 12 _ _ second.ensures.short index.ensures.short);
    }
