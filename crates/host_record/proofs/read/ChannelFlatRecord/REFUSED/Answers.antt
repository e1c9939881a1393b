use Rattle.std.proofs.Common.{refl}
use Rattle.host_record.specs.Lent.{refused_channel}
use Rattle.host_record.proofs.read.ChannelFlatRecord.REFUSED.Goals as goal

pub returns : goal.returns
unfolding refused_channel
returns c = refl
