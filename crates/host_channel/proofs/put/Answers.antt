use Rattle.std.proofs.Common.{rules}
use Rattle.whole_device.specs.Laws.Device.{put_stays}
use Rattle.host_channel.proofs.put.Goals as goal

pub returns-in_err-put : goal.returns-in_err-put
returns-in_err-put c = let stays = put_stays _ _ _ _ c.in_err-put.ensures in search rules
