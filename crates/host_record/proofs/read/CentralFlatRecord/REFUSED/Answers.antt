use Rattle.std.proofs.Common.{refl}
use Rattle.host_record.specs.Lent.{refused_central}
use Rattle.host_record.proofs.read.CentralFlatRecord.REFUSED.Goals as goal

pub returns : goal.returns
unfolding refused_central
returns c = refl
