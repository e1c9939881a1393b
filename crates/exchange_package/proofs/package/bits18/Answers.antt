-- `exchange_package::package::bits18` meets its contract.
use lib.Bits.{and_mask}
use Rattle.exchange_package.proofs.package.bits18.Goals as goal

pub returns : goal.returns
returns c = and_mask _ 18
