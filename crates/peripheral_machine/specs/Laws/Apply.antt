-- The exchange jump of 26 by its parts.
use Rattle.std.specs.Prelude.{List, ◌≡◌, ℕ}
use Rattle.std.proofs.Math.Path.{ap}
use Rattle.std.proofs.Common.{◌∙◌}
use Rattle.exchange_jump.specs.Jump.{exchanged_to, exchanged}
use Rattle.central_record.specs.declared.record.Central.{Central}
use Rattle.peripheral_machine.specs.Numbers.{central_of, with_central}
use Rattle.peripheral_machine.specs.Machine.{central_side}
use Rattle.peripheral_machine.specs.Apply.{after_exchange, exchanged_at}

module _ (x s : List ℕ) (d : Central) (e : d ≡ central_of x s) where
  pub machine-exchange-is : (c c' s' : List ℕ) (r : Central) (at : ℕ) → exchanged_to c' r ≡ exchanged c d at → s' ≡ with_central s r
      → central_side c' r.registers s' ≡ exchanged_at c x s at
  unfolding exchanged_at
  machine-exchange-is c c' s' r at o w =
      ap (central_side c' r.registers) w
      ∙ ap (after_exchange s) (o ∙ ap (λ (y : Central). exchanged c y at) e)
