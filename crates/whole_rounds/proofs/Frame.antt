-- The turn of a processor changes no other processor's memory or record, and a run no record of a processor that is not there.
use Rattle.std.specs.Prelude.{List, ◌≡◌, length}
use Rattle.std.proofs.Math.Logic.{⊎_elim}
use Rattle.std.proofs.Math.Path.{refl}
use Rattle.std.proofs.Common.{◌∙◌, arith, lit≤}
use Prim.Native.Nat.{ℕ, zero, suc, ◌+◌, ◌*◌, ◌≤◌, ◌<◌}
use Rattle.base_logic.specs.Laws.Choice.{of-cond, le-or-lt}
use Rattle.base_lists.specs.Parts.{part}
use Rattle.base_lists.specs.Laws.Parts.{part_same, part-splice, length-splice, word_below, word-above}
use Rattle.peripheral_machine.specs.Numbers.{processor_of}
use Rattle.peripheral_machine.specs.Machine.{Machine}
use Rattle.peripheral_machine.specs.Widths.{MachineKept}
use Rattle.peripheral_machine.specs.Laws.Frame.{processor-kept-above, controls-other}
use Rattle.peripheral_turn.specs.Turn.{peripheral_turn_of}
use Rattle.peripheral_turn.specs.Laws.Turn.{turn-keeps}
use Rattle.peripheral_turn.specs.Laws.Frame.{turn-other-processor}
use Rattle.whole_rounds.specs.Rounds.{central_turn_of, ticked, round_of, all_stopped, RoundsRun, rounds_of}
use Rattle.whole_processors.specs.Processors.{lent_to, processor_turned, processors_turned}
use Rattle.whole_processors.specs.Laws.Processors.{room, lent-kept}

module _ (size n : ℕ) (h : Machine) (l : n * 4096 + 4096 ≤ size) (few : n < 10) (kept : MachineKept size h) where
  abbrev left : List ℕ
  left = (peripheral_turn_of (lent_to h n) n).peripheral

  long : length left ≡ 4096
  long = (turn-keeps (lent_to h n) n few (lent-kept size n h l kept)).size

  -- its own words are what its turn left
  pub own-memory : part (processor_turned h n).peripheral (n * 4096) 4096 ≡ left
  unfolding processor_turned
  own-memory = part-splice h.peripheral (n * 4096) 4096 left (room size n h l kept) long

  -- those of processor j stay
  pub other-memory : (j : ℕ) → (j ≡ n → ⊥) → part (processor_turned h n).peripheral (j * 4096) 4096 ≡ part h.peripheral (j * 4096) 4096
  unfolding processor_turned
  other-memory j d =
      part_same _ h.peripheral (j * 4096) 4096 (length-splice h.peripheral (n * 4096) 4096 left (room size n h l kept) long)
      (λ i from to. ⊎_elim
      (λ g. word-above h.peripheral (n * 4096) 4096 left (room size n h l kept) long i (omega arith))
      (λ g. word_below h.peripheral (n * 4096) 4096 left (room size n h l kept) long i (omega arith))
      (le-or-lt n j))

  pub other-record : (j : ℕ) → j < 10 → (j ≡ n → ⊥) → processor_of (processor_turned h n).numbers j ≡ processor_of h.numbers j
  unfolding processor_turned
  other-record j m d = turn-other-processor (lent_to h n) n j few m d

-- the records of processors that are not there stay through turns, rounds and runs
module _ (k j : ℕ) (few : k ≤ 10) (absent : k ≤ j) (below : j < 10) where
  turn-leaves : (h : Machine) (n : ℕ) → n < k → processor_of (processor_turned h n).numbers j ≡ processor_of h.numbers j
  unfolding processor_turned
  turn-leaves h n l = turn-other-processor (lent_to h n) n j (omega arith) below (λ e. omega arith)

  turns-leave : (i n : ℕ) → n + i ≡ k → (h : Machine) → processor_of (processors_turned i n h).numbers j ≡ processor_of h.numbers j
  unfolding processors_turned
  turns-leave zero n t h = refl
  turns-leave (suc i) n t h = turns-leave i (n + 1) (omega arith) (processor_turned h n) ∙ turn-leaves h n (omega arith)

  central-leaves : (c x s : List ℕ) → processor_of (central_turn_of c x s).numbers j ≡ processor_of s j
  unfolding central_turn_of
  central-leaves c x s = controls-other s _ _ _ _ _ j below

  tick-leaves : (s : List ℕ) → processor_of (ticked s) j ≡ processor_of s j
  unfolding ticked
  tick-leaves s = processor-kept-above s 83 _ j (lit≤ tt) below

  round-leaves : (h : Machine) → processor_of (round_of k h).numbers j ≡ processor_of h.numbers j
  unfolding round_of
  round-leaves h =
      let o = processors_turned k 0 h in
      tick-leaves (central_turn_of o.central o.registers o.numbers).numbers
      ∙ central-leaves o.central o.registers o.numbers
      ∙ turns-leave k 0 (omega arith) h

  pub absent-record : (n : ℕ) (h : Machine) → processor_of (rounds_of n k h).machine.numbers j ≡ processor_of h.numbers j
  unfolding rounds_of
  absent-record zero h = refl
  absent-record (suc n) h =
      of-cond (λ (o : RoundsRun). processor_of o.machine.numbers j ≡ processor_of h.numbers j) (all_stopped k h.numbers) (λ e. refl)
      (λ e. absent-record n (round_of k h) ∙ round-leaves h)
