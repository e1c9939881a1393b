-- `exchange_jump::jump::exchange_jump` meets its contract.
use native.Mathlib.Nat.{add-sub_cancel_left}
use Rattle.exchange_jump.specs.Jump.{exchanged}
use Rattle.exchange_jump.proofs.jump.exchange_jump.Goals as goal

pub returns : goal.returns
unfolding exchanged
returns c = rw (c.load-next.ensures, add-sub_cancel_left, c.store.ensures)
