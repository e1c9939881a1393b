use Rattle.std.proofs.Common.{rules}
use Rattle.whole_device.specs.Laws.Device.{drop_stays}
use Rattle.host_channel.proofs.drop.Goals as goal

pub returns-in_err-drop : goal.returns-in_err-drop
returns-in_err-drop c = let stays = drop_stays _ _ _ c.in_err-drop.ensures in search rules
