-- What a turn leaves as it was, and a word that 62 writes and 60 reads.
use Rattle.std.specs.Prelude.{List, ◌≡◌, refl, ℕ, ◌<◌, eqb, set, length}
use Rattle.std.proofs.Common.{sym, ◌∙◌, length-set}
use Rattle.std.proofs.Math.Path.{ap}
use borrow.Author.Tests.{lt-ltb}
use Rattle.std.proofs.Math.Seq.{get_or-set_same}
use Rattle.base_logic.specs.Laws.Choice.{of-cond}
use Rattle.base_outcome.specs.declared.stop.PeripheralStop.{PeripheralStop}
use Rattle.peripheral_machine.specs.Numbers.{processor_of, stopped}
use Rattle.peripheral_machine.specs.Machine.{Machine, machine}
use Rattle.peripheral_machine.specs.Apply.{with_parts, peripheral_applied}
use Rattle.peripheral_machine.specs.Widths.{ShortWords}
use Rattle.peripheral_machine.specs.Laws.Frame.{other-processor, parts_again}
use Rattle.peripheral_machine.specs.declared.effect.PeripheralEffect.{PeripheralEffect}
use Rattle.peripheral_machine.specs.declared.effect.PeripheralEffect.TheVariants.{ReadCentral, WriteCentral, Wait, Stop}
use Rattle.peripheral_machine.specs.declared.numbers.Processor.{Processor}
use Rattle.peripheral_codes.specs.Addresses.{onward}
use Rattle.peripheral_io.specs.CentralSide.{read_central, joined, write_central}
use Rattle.peripheral_turn.specs.Turn.{peripheral_effect_of, peripheral_turn_of}
use Rattle.peripheral_turn.specs.Laws.Turn.{turn-running}

-- the record of every other processor
pub turn-other-processor : (h : Machine) (n j : ℕ) → n < 10 → j < 10 → (j ≡ n → ⊥)
    → processor_of (peripheral_turn_of h n).numbers j ≡ processor_of h.numbers j
unfolding peripheral_turn_of
turn-other-processor h n j l b other =
    of-cond (λ (o : Machine). processor_of o.numbers j ≡ processor_of h.numbers j) (eqb (processor_of h.numbers n).stop 0)
    (λ e. other-processor h n j _ l b other)
    (λ e. refl)

waited : (h : Machine) (n : ℕ) → peripheral_applied h n Wait ≡ h
unfolding peripheral_applied
waited h n = refl

halted : (h : Machine) (n : ℕ) (why : PeripheralStop)
    → peripheral_applied h n (Stop why) ≡ machine h.peripheral h.central h.registers (stopped h.numbers n why)
unfolding peripheral_applied
halted h n why = refl

read-memory : (h : Machine) (n p a i w : ℕ) → (peripheral_applied h n (ReadCentral p a i w)).peripheral ≡ with_parts h.peripheral i w
unfolding peripheral_applied
read-memory h n p a i w = refl

module _ (h : Machine) (n : ℕ) where
  abbrev asked : PeripheralEffect
  asked = peripheral_effect_of h.peripheral h.central h.numbers (processor_of h.numbers n)

  -- "Unmet, the turn changes nothing (a wait)."
  pub wait-changes-nothing : asked ≡ Wait → peripheral_turn_of h n ≡ h
  unfolding peripheral_turn_of
  wait-changes-nothing e =
      of-cond (λ (o : Machine). o ≡ h) (eqb (processor_of h.numbers n).stop 0) (λ t. ap (peripheral_applied h n) e ∙ waited h n) (λ t. refl)

  -- "The stopped instruction changes nothing else"
  pub stop-changes-stop-alone : (processor_of h.numbers n).stop ≡ 0 → (why : PeripheralStop) → asked ≡ Stop why
      → peripheral_turn_of h n ≡ machine h.peripheral h.central h.registers (stopped h.numbers n why)
  stop-changes-stop-alone z why e =
      sym (turn-running h n z (processor_of h.numbers n) refl (Stop why) (sym e) _ refl) ∙ halted h n why

-- the five words that 62 joined, stored again
pub written-then-read : (m : List ℕ) (d : ℕ) → ShortWords m → with_parts m d (joined m d) ≡ m
unfolding joined
written-then-read m d w = parts_again m d w

module _ (m c : List ℕ) (q : Processor) (d : ℕ) (inside : q.a < length c) where
  -- 62 at an address inside
  pub written-inside : write_central m c q d ≡ WriteCentral (onward q.p 1) q.a q.a (joined m d)
  unfolding write_central
  written-inside = rw (lt-ltb q.a (length c) inside)

  -- a 60 with the same A after it
  pub read-after-write : read_central (set c q.a (joined m d)) q d ≡ ReadCentral (onward q.p 1) q.a d (joined m d)
  unfolding read_central
  read-after-write =
      rw (length-set c q.a (joined m d), lt-ltb q.a (length c) inside, get_or-set_same c q.a (joined m d) 0 inside)

-- "60, 62 move one word in five parts": 62, then 60 with the same A and d, leaves the processor's own memory as it was
module _ (h : Machine) (n d : ℕ) (q : Processor) (inside : q.a < length h.central) where
  abbrev after : Machine
  after = peripheral_applied h n (write_central h.peripheral h.central q d)

  after-memory : after.peripheral ≡ h.peripheral
  unfolding peripheral_applied
  after-memory = rw (written-inside h.peripheral h.central q d inside)

  after-central : after.central ≡ set h.central q.a (joined h.peripheral d)
  unfolding peripheral_applied
  after-central = rw (written-inside h.peripheral h.central q d inside)

  -- r is the processor at the 60
  pub written-and-read : ShortWords h.peripheral → (r : Processor) → r.a ≡ q.a
      → (peripheral_applied after n (read_central after.central r d)).peripheral ≡ h.peripheral
  written-and-read w r e =
      let m : List ℕ = h.peripheral in
      let c : List ℕ = h.central in
      ap (λ (y : List ℕ). (peripheral_applied after n (read_central y r d)).peripheral)
      (after-central ∙ ap (λ (a : ℕ). set c a (joined m d)) (sym e))
      ∙ ap (λ (y : PeripheralEffect). (peripheral_applied after n y).peripheral) (read-after-write m c r d (rw e inside))
      ∙ read-memory after n (onward r.p 1) r.a d (joined m d)
      ∙ ap (λ (y : List ℕ). with_parts y d (joined m d)) after-memory
      ∙ written-then-read m d w
