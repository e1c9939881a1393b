-- `host_answer::write::store_processor` meets its contract.
use native.Mathlib.Omega.{arith}
use lib.ListN.{length-set}
use Rattle.host_answer.specs.Laws.Write.{places}
use Rattle.host_answer.proofs.write.store_processor.Goals as goal

pub bounds-out-at-2 : goal.bounds-out-at-2
bounds-out-at-2 c = simp length-set (omega arith)

pub bounds-out-at-3 : goal.bounds-out-at-3
bounds-out-at-3 c = simp length-set (omega arith)

pub returns : goal.returns
returns c = record { is = rw ((places c.args.at).0, (places c.args.at).1.0) }
