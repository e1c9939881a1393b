use Rattle.std.proofs.Common.{rules}
use Rattle.whole_device.specs.Laws.Device.{take_stays}
use Rattle.host_channel.proofs.take.Goals as goal

pub returns-in_err-taken : goal.returns-in_err-taken
returns-in_err-taken c = let stays = take_stays _ _ _ c.in_err-taken.ensures in search rules
