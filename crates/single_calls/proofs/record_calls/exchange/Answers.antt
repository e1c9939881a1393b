-- `single_calls::record_calls::exchange` meets its contract.
use Rattle.std.proofs.Common.{sym, ◌∙◌}
use Rattle.central_record.specs.Laws.Record.{fits}
use Rattle.single_calls.specs.Laws.RecordCalls.{exchange-host, exchange-owner}
use Rattle.single_calls.proofs.record_calls.exchange.Goals as goal

pub exchange_jump-requires : goal.exchange_jump-requires
exchange_jump-requires c =
    let e = sym c.exchange_verdict.ensures ∙ c.in_ok-exchange_verdict.was in ((exchange-owner _ _ _ e).inside, (fits _ _ (exchange-host _ _ _ e).fits).fits-package)
