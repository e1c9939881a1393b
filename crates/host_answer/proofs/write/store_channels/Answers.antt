use mathlib.Core.Path.{refl}
use Rattle.base_lists.specs.Laws.Rows.{no-row-stored, one-row-stored}
use Rattle.host_answer.proofs.write.store_channels.Goals as goal

pub loop-i-init : goal.loop-i-init
loop-i-init c = no-row-stored

pub loop-i-preserved : goal.loop-i-preserved
loop-i-preserved c = one-row-stored (λ j. refl) c.loop-i.invariant c.loop-i-test.true c.store_channel.ensures
