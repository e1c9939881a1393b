-- Number 5 refuses what stands in the place of a slice that is no record: what is accepted has the length of a record.
-- These theorems stand in proofs/ since must-fail/misshapen_record_fits.edit changes a definition that they rest on.
use Rattle.std.specs.Prelude.{true, false, ◌&&◌, List, ◌≡◌, refl, ℕ, eqb, length}
use Rattle.std.proofs.Common.{eqb-true}
use Rattle.base_logic.specs.Laws.Tests.{both}
use Rattle.central_record.specs.Record.{record_fits}
use Rattle.whole_record.specs.Record.{machine_fits}
use Rattle.host_record.specs.Lent.{all_flags_fit, refused_central, refused_machine, central_lent, machine_lent}
use Rattle.host_record.specs.Laws.Lent.{chosen}

pub no-central : (n : ℕ) → record_fits n refused_central ≡ false
unfolding record_fits refused_central
no-central n = refl

pub no-machine : (n : ℕ) → machine_fits n refused_machine ≡ false
unfolding machine_fits refused_machine
no-machine n = rw no-central

pub central-length : (n : ℕ) (r : List ℕ) → record_fits n (central_lent r) ≡ true → length r ≡ 29
unfolding central_lent
central-length n r h = eqb-true (length r) 29 (chosen (record_fits n) (eqb (length r) 29) _ _ (no-central n) h)

pub machine-length : (n : ℕ) (r : List ℕ) → machine_fits n (machine_lent r) ≡ true → length r ≡ 108
unfolding machine_lent
machine-length n r h =
    let t = chosen (machine_fits n) (eqb (length r) 108 && all_flags_fit r) _ _ (no-machine n) h in
    eqb-true (length r) 108 (both (eqb (length r) 108) (all_flags_fit r) t).0
