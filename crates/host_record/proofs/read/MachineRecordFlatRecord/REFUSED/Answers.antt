use Rattle.std.proofs.Common.{refl}
use Rattle.host_record.specs.Lent.{refused_central, refused_channel, refused_machine}
use Rattle.host_record.proofs.read.MachineRecordFlatRecord.REFUSED.Goals as goal

pub returns : goal.returns
unfolding refused_central refused_channel refused_machine
returns c = refl
