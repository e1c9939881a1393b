-- `single_calls::program::owner_verdict` meets its contract.
use Rattle.std.proofs.Common.{sym, ◌∙◌}
use Rattle.exchange_jump.specs.Laws.Verdicts.{package-accepted}
use Rattle.single_calls.proofs.program.owner_verdict.Goals as goal

pub overlap_verdict-requires-clause-package_accepted : goal.overlap_verdict-requires-clause-package_accepted
overlap_verdict-requires-clause-package_accepted c =
    package-accepted _ _ (sym c.package_verdict.ensures ∙ c.in_ok-package_verdict.was)
