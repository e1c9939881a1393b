-- `host_answer::write::store_central` meets its contract.
use native.Mathlib.Omega.{arith}
use lib.ListN.{length-set}
use Rattle.host_answer.specs.Laws.Write.{central-stored}
use Rattle.base_lists.specs.Laws.Rows.{stored-length}
use Rattle.host_answer.proofs.write.store_central.Goals as goal

pub bounds-out-1 : goal.bounds-out-1
bounds-out-1 c = simp length-set (omega arith)

pub bounds-out-2 : goal.bounds-out-2
bounds-out-2 c = simp length-set (omega arith)

pub bounds-out-3 : goal.bounds-out-3
bounds-out-3 c = simp length-set (omega arith)

pub store_registers-requires : goal.store_registers-requires
store_registers-requires c = simp length-set (omega arith)

pub bounds-out-28 : goal.bounds-out-28
bounds-out-28 c = omega (arith, simp length-set at (stored-length c.store_registers.ensures))

pub shape_of-out : goal.shape_of-out
shape_of-out c =
    let store-registers = c.store_registers in
    simp length-set (omega (arith, simp length-set at (stored-length store-registers.ensures)))

pub returns : goal.returns
returns c =
    let args = c.args in
    let store-registers = c.store_registers in
    central-stored args.c store-registers.ensures
