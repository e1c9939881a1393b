-- `shared_verdict::verdict::schedule_verdict` meets its contract.
use Rattle.std.proofs.Common.{sym, ◌∙◌}
use Rattle.exchange_jump.specs.Laws.Verdicts.{host-accepted}
use Rattle.shared_verdict.proofs.verdict.schedule_verdict.Goals as goal

pub owners_verdict-requires : goal.owners_verdict-requires
owners_verdict-requires c =
    (host-accepted _ _ (sym c.host_verdict.ensures ∙ c.in_ok-host_verdict.was)).at_most
