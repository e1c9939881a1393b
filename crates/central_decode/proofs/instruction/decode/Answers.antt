-- `central_decode::instruction::decode` meets its contract.
use mathlib.Core.Path.{refl}
use native.Mathlib.Omega.{arith}
use Rattle.central_decode.specs.Laws.Shifted.{top_read}
use Rattle.central_decode.proofs.instruction.decode.Goals as goal

pub returns : goal.returns
returns c = top_read _ c.args.v (omega arith) refl c.low.ensures c.low-2.ensures c.low-3.ensures c.low-4.ensures c.low-5.ensures
