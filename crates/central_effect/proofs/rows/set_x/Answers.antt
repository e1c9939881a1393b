-- `central_effect::rows::set_x` meets its contract.
use Rattle.central_effect.specs.Laws.Effects.{operand-lt}
use Rattle.central_effect.proofs.rows.set_x.Goals as goal

pub sign_extend18-requires : goal.sign_extend18-requires
sign_extend18-requires c = rw c.operand.ensures (operand-lt _ _ c.requires.wide c.decode-q.ensures.fit _)
