-- `single_calls::program::run_program` meets its contract.
use Rattle.std.proofs.Common.{sym, ◌∙◌}
use Rattle.single_calls.specs.Laws.Program.{program-accepted}
use Rattle.single_calls.proofs.program.run_program.Goals as goal

pub stint-requires : goal.stint-requires
stint-requires c = program-accepted _ _ _ _ (sym c.program_verdict.ensures ∙ c.in_ok-program_verdict.was)
