-- A turn keeps what the host lends as the host may lend it, and is taken in the steps of the code.
use Rattle.std.specs.Prelude.{◌≡◌, refl, ℕ, ◌<◌, eqb, length}
use Rattle.std.proofs.Common.{ap, ◌∙◌, eqb-true}
use Rattle.std.proofs.lemmas.Bool.{eqb-false}
use Rattle.base_logic.specs.Laws.Choice.{of-cond}
use Rattle.central_record.specs.Record.{FitsPackage}
use Rattle.central_record.specs.Laws.Record.{fits}
use Rattle.peripheral_machine.specs.Numbers.{processor_of, central_of}
use Rattle.peripheral_machine.specs.Machine.{Machine}
use Rattle.peripheral_machine.specs.Apply.{peripheral_applied}
use Rattle.peripheral_machine.specs.Widths.{MachineKept, PeripheralSound}
use Rattle.peripheral_machine.specs.Laws.Widths.{processor-short}
use Rattle.peripheral_machine.specs.Laws.Keeps.{peripheral-apply-keeps, apply-length}
use Rattle.peripheral_machine.specs.declared.effect.PeripheralEffect.{PeripheralEffect}
use Rattle.peripheral_machine.specs.declared.numbers.Processor.{Processor}
use Rattle.peripheral_turn.specs.Turn.{peripheral_effect_of, peripheral_turn_of}
use Rattle.peripheral_codes.specs.Widths.{Memory, Held}
use Rattle.peripheral_turn.specs.Laws.Effects.{peripheral-effect-sound}

-- a lent machine has what the effects ask for
pub kept_memory : (h : Machine) → MachineKept 4096 h → Memory h.peripheral
kept_memory h k = record { size = k.size; short = k.short }

pub kept-held : (h : Machine) (n : ℕ) → n < 10 → MachineKept 4096 h → Held (processor_of h.numbers n)
kept-held h n l k =
    let w = processor-short h.numbers k.wide n l in
    record { p = w.0; a = w.1 }

pub kept-package : {n : ℕ} (h : Machine) → MachineKept n h → FitsPackage (central_of h.registers h.numbers)
kept-package h k = (fits (length h.central) (central_of h.registers h.numbers) k.host.fits).fits-package

pub kept-effect : (h : Machine) (n : ℕ) → n < 10 → MachineKept 4096 h
    → PeripheralSound h.central (peripheral_effect_of h.peripheral h.central h.numbers (processor_of h.numbers n))
kept-effect h n l k =
    peripheral-effect-sound h.peripheral h.central h.numbers (processor_of h.numbers n)
    (kept_memory h k)
    k.wide
    (kept-package h k).p-width
    (kept-held h n l k)

pub turn-keeps : (h : Machine) (n : ℕ) → n < 10 → MachineKept 4096 h → MachineKept 4096 (peripheral_turn_of h n)
unfolding peripheral_turn_of
turn-keeps h n l k =
    of-cond (MachineKept 4096) (eqb (processor_of h.numbers n).stop 0) (λ e. peripheral-apply-keeps h n _ l (kept-effect h n l k) k) (λ e. k)

pub turn-length : (h : Machine) (n : ℕ) → n < 10 → MachineKept 4096 h → length (peripheral_turn_of h n).central ≡ length h.central
unfolding peripheral_turn_of
turn-length h n l k =
    of-cond (λ (o : Machine). length o.central ≡ length h.central) (eqb (processor_of h.numbers n).stop 0)
    (λ e. apply-length h n _ (kept-effect h n l k))
    (λ e. refl)

-- "A turn of a stopped processor changes nothing."
pub turn_stopped : (h : Machine) (n : ℕ) → ((processor_of h.numbers n).stop ≡ 0 → ⊥) → h ≡ peripheral_turn_of h n
unfolding peripheral_turn_of
turn_stopped h n f =
    of-cond (λ (o : Machine). h ≡ o) (eqb (processor_of h.numbers n).stop 0) (λ e. absurd (f (eqb-true _ 0 e))) (λ e. refl)

-- else it applies the effect of the instruction at P
pub turn-running : (h : Machine) (n : ℕ) → (processor_of h.numbers n).stop ≡ 0
    → (q : Processor) → q ≡ processor_of h.numbers n
    → (e : PeripheralEffect) → e ≡ peripheral_effect_of h.peripheral h.central h.numbers q
    → (o : Machine) → o ≡ peripheral_applied h n e
    → o ≡ peripheral_turn_of h n
unfolding peripheral_turn_of
turn-running h n z q at e is o after =
    of-cond (λ (x : Machine). o ≡ x) (eqb (processor_of h.numbers n).stop 0)
    (λ t. after ∙ ap (peripheral_applied h n) (is ∙ ap (peripheral_effect_of h.peripheral h.central h.numbers) at))
    (λ t. absurd (eqb-false _ 0 t z))
