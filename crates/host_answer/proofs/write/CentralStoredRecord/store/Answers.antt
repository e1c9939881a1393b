use mathlib.Core.Path.{◌∙◌, sym}
use Rattle.host_answer.specs.Laws.Write.{length-central}
use Rattle.base_lists.specs.Laws.Rows.{stored-whole}
use Rattle.host_answer.proofs.write.CentralStoredRecord.store.Goals as goal

pub returns : goal.returns
returns c = stored-whole c.store_central.ensures (c.requires ∙ sym (length-central c.args.self))
