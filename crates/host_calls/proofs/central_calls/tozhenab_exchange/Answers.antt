-- `host_calls::central_calls::tozhenab_exchange` meets its contract.
use Rattle.host_calls.specs.Laws.Central.{exchange-stores, exchange-is}
use Rattle.host_calls.proofs.central_calls.tozhenab_exchange.Goals as goal

pub keep-requires : goal.keep-requires
keep-requires c = exchange-stores _ _ _ _ c.lent-c.ensures _ _ c.exchange.ensures

pub returns : goal.returns
returns c = exchange-is _ _ _ _ c.lent-c.ensures _ _ _ c.keep.ensures _ c.exchange.ensures
