-- `host_answer::write::MachineRecordStoredRecord::store` meets its contract.
use native.Mathlib.Omega.{arith}
use lib.ListN.{length-set}
use Rattle.host_answer.specs.Laws.Write.{machine-stored}
use Rattle.base_lists.specs.Laws.Rows.{stored-length}
use Rattle.host_answer.proofs.write.MachineRecordStoredRecord.store.Goals as goal

pub store_channels-requires : goal.store_channels-requires
store_channels-requires c =
    let store-central-first = c.store_central in
    simp length-set (omega (arith, stored-length store-central-first.ensures))

pub store_processors-requires : goal.store_processors-requires
store_processors-requires c =
    let store-channels = c.store_channels in
    let store-central-first = c.store_central in
    omega (arith, stored-length store-channels.ensures, simp length-set at (stored-length store-channels.ensures), stored-length store-central-first.ensures)

pub shape_of-out : goal.shape_of-out
shape_of-out c =
    let store-processors = c.store_processors in
    let store-channels = c.store_channels in
    let store-central-first = c.store_central in
    omega (arith, stored-length store-processors.ensures, simp length-set at (stored-length store-channels.ensures), stored-length store-central-first.ensures)

pub returns : goal.returns
returns c =
    let args = c.args in
    let pre = c.requires in
    let store-central-first = c.store_central in
    let store-channels = c.store_channels in
    let store-processors = c.store_processors in
    machine-stored args.self pre store-central-first.ensures store-channels.ensures store-processors.ensures
