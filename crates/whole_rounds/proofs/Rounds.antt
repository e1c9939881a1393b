-- A round and a run as loops, what they keep, and runs one after the other.
use Rattle.std.specs.Prelude.{Bool, true, false, cond, List, ◌≡◌, length}
use Rattle.std.proofs.Math.Path.{refl, sym, ap}
use Rattle.std.proofs.Common.{subst, ◌∙◌, zero-add, arith, eq-eqb, ne_eqb, lit≤}
use Prim.Native.Nat.{ℕ, zero, suc, ◌+◌, ◌*◌, ◌^◌, ◌≤◌, ◌<◌}
use Rattle.base_logic.specs.Laws.Choice.{of-cond}
use Rattle.base_lists.specs.Indexed.{all_below}
use Rattle.exchange_jump.specs.Accepted.{HostAccepted}
use Rattle.peripheral_machine.specs.Numbers.{central_stop, clock_of}
use Rattle.peripheral_machine.specs.Machine.{Machine, machine, CentralSide}
use Rattle.peripheral_machine.specs.Widths.{MachineKept}
use Rattle.peripheral_machine.specs.Laws.Widths.{clock-short}
use Rattle.whole_rounds.specs.Rounds.{central_turn_of, ticked, round_ended, after_processors, round_of, is_stopped, all_stopped, RoundsRun, rounds_ran, rounds_before, rounds_of}
use Rattle.whole_processors.specs.Processors.{processors_turned}
use Rattle.whole_processors.specs.Laws.Processors.{own-size, processors-keep, processors-length}
use Rattle.whole_rounds.specs.Laws.Central.{CentralKept, central-keeps, tick-wide, tick-places, tick-central}

-- what the end of a round keeps
ended-keeps : (n l : ℕ) (h : Machine) → MachineKept n h → (o : CentralSide) → CentralKept l o → MachineKept n (round_ended h.peripheral o)
ended-keeps n l h kept o t =
    record {
      size = kept.size;
      short = kept.short;
      host = subst (HostAccepted o.central) (sym (tick-central o.registers o.numbers)) t.host;
      count = t.count;
      places = tick-places o.numbers ∙ t.places;
      wide = tick-wide o.numbers t.wide;
    }

central-kept : (n : ℕ) (h : Machine) → MachineKept n h → CentralKept (length h.central) (central_turn_of h.central h.registers h.numbers)
central-kept n h kept = central-keeps h.central h.registers h.numbers kept.host kept.count kept.places kept.wide

-- all k processors are there
pub all-ready : (k : ℕ) → k ≤ 10 → (h : Machine) → MachineKept (k * 4096) h
    → MachineKept (length h.peripheral) h × (((0 + k) * 4096 ≤ length h.peripheral) × (0 + k ≤ 10))
all-ready k few h kept = (own-size (k * 4096) h kept, (omega (arith, kept.size), omega arith))

-- a round by its three parts
module _ (k : ℕ) (few : k ≤ 10) (h : Machine) (kept : MachineKept (k * 4096) h) (o : Machine) (e : o ≡ processors_turned k 0 h) where
  pub after_kept : MachineKept (k * 4096) o
  after_kept = subst (MachineKept (k * 4096)) (sym e) (processors-keep k few k 0 (omega arith) h kept)

  module _ (z : CentralSide) (ez : z ≡ central_turn_of o.central o.registers o.numbers) where
    pub clock-kept : clock_of z.numbers < 2 ^ 12
    clock-kept =
        clock-short z.numbers
        (subst (CentralKept (length o.central)) (sym ez) (central-kept (k * 4096) o after_kept)).wide

    pub round_is : (s : List ℕ) → s ≡ ticked z.numbers → machine o.peripheral z.central z.registers s ≡ round_of k h
    unfolding round_of
    round_is s es =
        ap (machine o.peripheral z.central z.registers) es
        ∙ ap (round_ended o.peripheral) ez
        ∙ ap after_processors e

-- widths and lengths are kept
pub round_keeps : (k : ℕ) → k ≤ 10 → (h : Machine) → MachineKept (k * 4096) h → MachineKept (k * 4096) (round_of k h)
unfolding round_of
round_keeps k few h kept =
    let o = processors_turned k 0 h in
    let t = processors-keep k few k 0 (omega arith) h kept in
    ended-keeps (k * 4096) _ o t (central_turn_of o.central o.registers o.numbers) (central-kept (k * 4096) o t)

pub round-length : (k : ℕ) → k ≤ 10 → (h : Machine) → MachineKept (k * 4096) h → length (round_of k h).central ≡ length h.central
unfolding round_of
round-length k few h kept =
    (central-kept (k * 4096) (processors_turned k 0 h) (processors-keep k few k 0 (omega arith) h kept)).long
    ∙ processors-length k few k 0 (omega arith) h kept

-- all are stopped, or one of them runs
pub central-runs : (k : ℕ) (s : List ℕ) → central_stop s ≡ 0 → false ≡ all_stopped k s
unfolding all_stopped
central-runs k s z = rw (eq-eqb (central_stop s) 0 z)

pub others-decide : (k : ℕ) (s : List ℕ) → (central_stop s ≡ 0 → ⊥) → all_below k (is_stopped s) ≡ all_stopped k s
unfolding all_stopped
others-decide k s z = rw (ne_eqb (central_stop s) 0 z)

-- counts add up
no-rounds-before : (o : RoundsRun) → rounds_before 0 o ≡ o
no-rounds-before o = ap (rounds_ran o.machine) (zero-add o.rounds)

before-before : (i j : ℕ) (o : RoundsRun) → rounds_before i (rounds_before j o) ≡ rounds_before (i + j) o
before-before i j o =
    let e : i + (j + o.rounds) ≡ (i + j) + o.rounds = omega arith in
    ap (rounds_ran o.machine) e

before-none : (h : Machine) (i : ℕ) → rounds_before i (rounds_ran h 0) ≡ rounds_ran h i
before-none h i = let e : i + 0 ≡ i = omega arith in ap (rounds_ran h) e

-- the state of the loop: with i rounds made, what is left to run gives what the whole run gives
pub record RoundsGoing (k n : ℕ) (h₀ h : Machine) (i : ℕ) : Type 0 where
  pub kept : MachineKept (k * 4096) h
  pub long : length h.central ≡ length h₀.central
  pub left : ℕ
  pub total : i + left ≡ n
  pub is : rounds_before i (rounds_of left k h) ≡ rounds_of n k h₀

pub rounds-going-start : (k n : ℕ) (h : Machine) → MachineKept (k * 4096) h → RoundsGoing k n h h 0
rounds-going-start k n h kept = record { kept = kept; long = refl; left = n; total = omega arith; is = no-rounds-before (rounds_of n k h) }

module _ (k : ℕ) (h : Machine) where
  none_left : (j i : ℕ) → j ≡ 0 → rounds_ran h i ≡ rounds_before i (rounds_of j k h)
  unfolding rounds_of
  none_left zero i e = sym (before-none h i)
  none_left (suc j) i e = absurd (omega arith)

  -- before a round in which all are stopped
  stops-before : (j : ℕ) → all_stopped k h.numbers ≡ true → rounds_of j k h ≡ rounds_ran h 0
  unfolding rounds_of
  stops-before zero e = refl
  stops-before (suc j) e = rw e

  one-round : (j : ℕ) → all_stopped k h.numbers ≡ false → rounds_of (suc j) k h ≡ rounds_before 1 (rounds_of j k (round_of k h))
  unfolding rounds_of
  one-round j e = rw e

module _ (k n : ℕ) (h₀ h : Machine) (i : ℕ) (g : RoundsGoing k n h₀ h i) where
  pub rounds-going-end : n ≤ i → rounds_ran h n ≡ rounds_of n k h₀
  rounds-going-end l =
      let e : n ≡ i = omega (arith, g.total) in
      ap (rounds_ran h) e ∙ none_left k h g.left i (omega (arith, g.total)) ∙ g.is

  pub rounds-going-stop : all_stopped k h.numbers ≡ true → rounds_ran h i ≡ rounds_of n k h₀
  rounds-going-stop e = sym (ap (rounds_before i) (stops-before k h g.left e) ∙ before-none h i) ∙ g.is

  module _ (few : k ≤ 10) (l : i < n) (e : all_stopped k h.numbers ≡ false) (o : Machine) (r : o ≡ round_of k h) where
    goes_on : (j : ℕ) → i + j ≡ n → rounds_before i (rounds_of j k h) ≡ rounds_of n k h₀ → RoundsGoing k n h₀ o (i + 1)
    goes_on zero t a = absurd (omega arith)
    goes_on (suc j) t a =
        record {
          kept = subst (MachineKept (k * 4096)) (sym r) (round_keeps k few h g.kept);
          long = ap (λ (x : Machine). length x.central) r ∙ round-length k few h g.kept ∙ g.long;
          left = j;
          total = omega arith;
          is =
              ap (λ (x : Machine). rounds_before (i + 1) (rounds_of j k x)) r
              ∙ sym (before-before i 1 (rounds_of j k (round_of k h)))
              ∙ sym (ap (rounds_before i) (one-round k h j e))
              ∙ a;
        }

    pub rounds-going-on : RoundsGoing k n h₀ o (i + 1)
    rounds-going-on = goes_on g.left g.total g.is

-- a run makes at most the rounds asked
pub rounds-most : (n k : ℕ) (h : Machine) → (rounds_of n k h).rounds ≤ n
unfolding rounds_of
rounds-most zero k h = lit≤ tt
rounds-most (suc n) k h =
    of-cond (λ (o : RoundsRun). o.rounds ≤ suc n) (all_stopped k h.numbers) (λ e. omega arith) (λ e. omega (arith, rounds-most n k (round_of k h)))

pub run-keeps : (k : ℕ) → k ≤ 10 → (n : ℕ) (h : Machine) → MachineKept (k * 4096) h → MachineKept (k * 4096) (rounds_of n k h).machine
unfolding rounds_of
run-keeps k few zero h kept = kept
run-keeps k few (suc n) h kept =
    of-cond (λ (o : RoundsRun). MachineKept (k * 4096) o.machine) (all_stopped k h.numbers) (λ e. kept)
    (λ e. run-keeps k few n (round_of k h) (round_keeps k few h kept))

pub run_length : (k : ℕ) → k ≤ 10 → (n : ℕ) (h : Machine) → MachineKept (k * 4096) h → length (rounds_of n k h).machine.central ≡ length h.central
unfolding rounds_of
run_length k few zero h kept = refl
run_length k few (suc n) h kept =
    of-cond (λ (o : RoundsRun). length o.machine.central ≡ length h.central) (all_stopped k h.numbers) (λ e. refl)
    (λ e. run_length k few n (round_of k h) (round_keeps k few h kept) ∙ round-length k few h kept)

-- a run that goes on from where o ended
abbrev pub then_rounds : ℕ → ℕ → RoundsRun → RoundsRun
then_rounds j k o = rounds_before o.rounds (rounds_of j k o.machine)

-- n rounds and then j are n + j rounds
pub rounds-then-rounds : (n j k : ℕ) (h : Machine) → rounds_of (n + j) k h ≡ then_rounds j k (rounds_of n k h)
unfolding rounds_of
rounds-then-rounds zero j k h = rw (zero-add j) (sym (no-rounds-before (rounds_of j k h)))
rounds-then-rounds (suc n) j k h =
    let e : suc n + j ≡ suc (n + j) = omega arith in
    rw e (split (all_stopped k h.numbers) refl (rounds-then-rounds n j k (round_of k h)))
  where
    split : (t : Bool) → all_stopped k h.numbers ≡ t → rounds_of (n + j) k (round_of k h) ≡ then_rounds j k (rounds_of n k (round_of k h))
        → cond t (rounds_ran h 0) (rounds_before 1 (rounds_of (n + j) k (round_of k h)))
        ≡ then_rounds j k (cond t (rounds_ran h 0) (rounds_before 1 (rounds_of n k (round_of k h))))
    split true e rest = sym (no-rounds-before (rounds_of j k h) ∙ stops-before k h j e)
    split false e rest = ap (rounds_before 1) rest ∙ before-before 1 _ _
