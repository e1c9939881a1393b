-- `peripheral_machine::apply::exchange_at` meets its contract.
use Rattle.peripheral_machine.specs.Laws.Apply.{machine-exchange-is}
use Rattle.peripheral_machine.proofs.apply.exchange_at.Goals as goal

pub returns : goal.returns
returns c = machine-exchange-is _ _ _ c.central-before.ensures _ _ _ _ _ c.exchange_jump-next.ensures c.set_controls.ensures
