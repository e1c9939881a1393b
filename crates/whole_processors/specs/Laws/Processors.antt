-- Turns of the processors, one after the other.
use Rattle.std.specs.Prelude.{◌≡◌, length}
use Rattle.std.proofs.Math.Path.{refl, ap}
use Rattle.std.proofs.Common.{sym, subst, ◌∙◌}
use Prim.Native.Nat.{ℕ, zero, suc, ◌+◌, ◌-◌, ◌*◌, ◌^◌, ◌≤◌, ◌<◌}
use native.Mathlib.Omega.{arith}
use Rattle.base_lists.specs.Laws.Parts.{length_part, part-lt, length-splice, splice-lt}
use Rattle.peripheral_machine.specs.Machine.{Machine}
use Rattle.peripheral_machine.specs.Widths.{MachineKept}
use Rattle.peripheral_turn.specs.Turn.{peripheral_turn_of}
use Rattle.peripheral_turn.specs.Laws.Turn.{turn-keeps, turn-length}
use Rattle.whole_processors.specs.Processors.{lent_to, returned, processor_turned, processors_turned}

-- the words lent are 4,096
pub lent-words : (n : ℕ) → n * 4096 + 4096 - n * 4096 ≡ 4096
lent-words n = omega arith

module _ (size n : ℕ) (h : Machine) (l : n * 4096 + 4096 ≤ size) (kept : MachineKept size h) where
  pub room : n * 4096 + 4096 ≤ length h.peripheral
  room = omega (arith, kept.size, l)

  pub lent-kept : MachineKept 4096 (lent_to h n)
  lent-kept =
      record {
        size = length_part h.peripheral (n * 4096) 4096 room;
        short = record { word = part-lt h.peripheral (n * 4096) 4096 (2 ^ 12) kept.short.word };
        host = kept.host;
        count = kept.count;
        places = kept.places;
        wide = kept.wide;
      }

  returned-kept : (o : Machine) → MachineKept 4096 o → MachineKept size (returned h n o)
  returned-kept o t =
      record {
        size = length-splice h.peripheral (n * 4096) 4096 o.peripheral room t.size ∙ kept.size;
        short = record { word = splice-lt h.peripheral (n * 4096) 4096 o.peripheral room t.size (2 ^ 12) kept.short.word t.short.word };
        host = t.host;
        count = t.count;
        places = t.places;
        wide = t.wide;
      }

  -- widths and lengths are kept
  pub processor-keeps : n < 10 → MachineKept size (processor_turned h n)
  unfolding processor_turned
  processor-keeps m = returned-kept (peripheral_turn_of (lent_to h n) n) (turn-keeps (lent_to h n) n m lent-kept)

  pub processor-length : n < 10 → length (processor_turned h n).central ≡ length h.central
  unfolding processor_turned
  processor-length m = turn-length (lent_to h n) n m lent-kept

-- a machine with as many words as it has
pub own-size : (n : ℕ) (h : Machine) → MachineKept n h → MachineKept (length h.peripheral) h
own-size n h kept =
    record { size = refl; short = kept.short; host = kept.host; count = kept.count; places = kept.places; wide = kept.wide }

-- the turn on the words lent, and these put back
pub processor-is : (h : Machine) (n : ℕ) (o : Machine) → o ≡ peripheral_turn_of (lent_to h n) n → returned h n o ≡ processor_turned h n
unfolding processor_turned
processor-is h n o e = ap (returned h n) e

module _ (k : ℕ) (few : k ≤ 10) where
  pub processors-keep : (j n : ℕ) → n + j ≡ k → (h : Machine) → MachineKept (k * 4096) h → MachineKept (k * 4096) (processors_turned j n h)
  unfolding processors_turned
  processors-keep zero n t h kept = kept
  processors-keep (suc j) n t h kept =
      processors-keep j (n + 1) (omega arith) (processor_turned h n) (processor-keeps (k * 4096) n h (omega arith) kept (omega arith))

  pub processors-length : (j n : ℕ) → n + j ≡ k → (h : Machine) → MachineKept (k * 4096) h → length (processors_turned j n h).central ≡ length h.central
  unfolding processors_turned
  processors-length zero n t h kept = refl
  processors-length (suc j) n t h kept =
      processors-length j (n + 1) (omega arith) (processor_turned h n) (processor-keeps (k * 4096) n h (omega arith) kept (omega arith))
      ∙ processor-length (k * 4096) n h (omega arith) kept (omega arith)

-- the state of the loop: the processors from n on, up to the last, give what all of them give
pub record ProcessorsGoing (size first count : ℕ) (h₀ h : Machine) (n : ℕ) : Type 0 where
  pub kept : MachineKept size h
  pub long : length h.central ≡ length h₀.central
  pub is : processors_turned (first + count - n) n h ≡ processors_turned count first h₀

pub processors-going-start : (size first count : ℕ) (h : Machine) → MachineKept size h → ProcessorsGoing size first count h h first
processors-going-start size first count h kept =
    let e : first + count - first ≡ count = omega arith in
    record { kept = kept; long = refl; is = ap (λ (j : ℕ). processors_turned j first h) e }

module _ (size first count : ℕ) (h₀ h : Machine) (n : ℕ) (g : ProcessorsGoing size first count h₀ h n) where
  none_left : (j : ℕ) → j ≡ 0 → h ≡ processors_turned j n h
  unfolding processors_turned
  none_left zero e = refl
  none_left (suc j) e = absurd (omega arith)

  pub processors-going-end : first + count ≤ n → h ≡ processors_turned count first h₀
  processors-going-end l = none_left (first + count - n) (omega arith) ∙ g.is

  module _ (room : (first + count) * 4096 ≤ size) (few : first + count ≤ 10) (l : n < first + count) (o : Machine) (e : o ≡ processor_turned h n) where
    next : (j : ℕ) → first + count - n ≡ suc j → processors_turned (first + count - n) n h ≡ processors_turned j (n + 1) (processor_turned h n)
    unfolding processors_turned
    next j a = ap (λ (x : ℕ). processors_turned x n h) a

    pub processors-going-on : ProcessorsGoing size first count h₀ o (n + 1)
    processors-going-on =
        record {
          kept = subst (MachineKept size) (sym e) (processor-keeps size n h (omega arith) g.kept (omega arith));
          long = ap (λ (x : Machine). length x.central) e ∙ processor-length size n h (omega arith) g.kept (omega arith) ∙ g.long;
          is = ap (processors_turned (first + count - (n + 1)) (n + 1)) e ∙ sym (next (first + count - (n + 1)) (omega arith)) ∙ g.is;
        }

-- one processor alone
pub one-processor : (n : ℕ) (h : Machine) → processors_turned 1 n h ≡ processor_turned h n
unfolding processors_turned
one-processor n h = refl
