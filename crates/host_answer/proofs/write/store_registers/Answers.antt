use Rattle.std.proofs.Common.{rules}
use Rattle.host_answer.specs.Laws.Write.{registers-stored}
use Rattle.host_answer.proofs.write.store_registers.Goals as goal

pub returns : goal.returns
returns c = rw c.copy_from_slice.ensures.after (registers-stored c.args.out.now c.args.registers c.requires (search rules))
