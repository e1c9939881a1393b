-- The calls by the results of their parts, and what is handed back may be lent again.
use Rattle.std.specs.Prelude.{true, List, ◌≡◌, ℕ, ◌+◌, ◌*◌, ◌≤◌, ◌<◌, length, Ok, Err}
use Rattle.std.proofs.Common.{sym, ap, subst, ◌∙◌, arith}
use Rattle.base_outcome.specs.declared.refusal.Refusal.{Refusal}
use Rattle.base_outcome.specs.Verdict.{Verdict}
use Rattle.peripheral_machine.specs.Machine.{Machine, machine}
use Rattle.peripheral_machine.specs.Widths.{MachineKept}
use Rattle.whole_record.specs.Numbers.{numbers_of, record_of, machine_of}
use Rattle.whole_verdict.specs.Verdict.{processors_in, machine_verdict, turn_verdict, run_verdict}
use Rattle.whole_verdict.specs.Laws.Verdict.{peripheral-turn-accepted, run-accepted, processors-few, machine-kept, machine-lent-again}
use Rattle.whole_record.specs.declared.record.MachineRecord.{MachineRecord}
use Rattle.whole_rounds.specs.Rounds.{rounds_ran, rounds_of}
use Rattle.whole_processors.specs.Processors.{processor_turned, processors_turned}
use Rattle.whole_processors.specs.Laws.Processors.{processor-keeps, own-size, one-processor}
use Rattle.whole_rounds.proofs.Rounds.{run-keeps}
use Rattle.whole_calls.specs.Call.{Left, left, left_by, left_after, machine_answered, machine_answer_by}

-- the answer of a call that is carried out, and of one that is refused
module _ {A B : Type 0} (answer : Verdict → B → A) (v : Verdict) (lent after : Left B) where
  pub carried-out : v ≡ Ok tt → (o : Left B) → o ≡ after
      → machine_answered o.central o.peripheral (Ok tt) (answer (Ok tt) o.value) ≡ machine_answer_by answer v lent after
  carried-out e o h = rw e (ap (machine_answer_by answer (Ok tt) lent) h)

  pub machine-refused : (x : Refusal) → v ≡ Err x
      → machine_answered lent.central lent.peripheral (Err x) (answer (Err x) lent.value) ≡ machine_answer_by answer v lent after
  machine-refused x e = rw e

module _ (c m : List ℕ) (r : MachineRecord) where
  -- the machine that is lent to turns
  abbrev lent : List ℕ → Machine
  lent s = machine m c r.central.registers s

  module _ (s : List ℕ) (e : s ≡ numbers_of r) where
    ready : machine_verdict true c m r ≡ Ok tt → length r.central.registers ≡ 24 → MachineKept (processors_in m * 4096) (lent s)
    ready a count = subst (λ (t : List ℕ). MachineKept (processors_in m * 4096) (lent t)) (sym e) (machine-kept c m r a count)

    pub turn-ready : (n : ℕ) → turn_verdict c m r n ≡ Ok tt → length r.central.registers ≡ 24
        → MachineKept (length m) (lent s) × (((n + 1) * 4096 ≤ length m) × (n + 1 ≤ 10))
    turn-ready n v count =
        let a = peripheral-turn-accepted c m r n v in
        let kept = ready a.1 count in (
          own-size (processors_in m * 4096) (lent s) kept,
          (omega (arith, a.0, kept.size), omega (arith, a.0, (processors-few c m r a.1).1)),
        )

    pub turn-carried-out : (n : ℕ) (h : Machine) → h ≡ processors_turned 1 n (lent s) → (o : MachineRecord) → o ≡ record_of h.registers h.numbers
        → left h.central h.peripheral o ≡ left_by (processor_turned (machine_of c m r) n)
    turn-carried-out n h t o w =
        ap (left h.central h.peripheral) w
        ∙ ap left_by (t ∙ one-processor n (lent s) ∙ ap (λ (l : List ℕ). processor_turned (lent l) n) e)

    pub run-ready : (n : ℕ) → run_verdict c m r n ≡ Ok tt → length r.central.registers ≡ 24
        → MachineKept (processors_in m * 4096) (lent s) × (processors_in m ≤ 10)
    run-ready n v count = let a = run-accepted c m r n v in (ready a.1 count, (processors-few c m r a.1).1)

    pub run-carried-out : (n : ℕ) (h : Machine) (made : ℕ) → rounds_ran h made ≡ rounds_of n (processors_in m) (lent s) → (o : MachineRecord)
        → o ≡ record_of h.registers h.numbers
        → left h.central h.peripheral (record { machine = o; rounds = made }) ≡ left_after (rounds_of n (processors_in m) (machine_of c m r))
    run-carried-out n h made t o w =
        ap (λ (x : MachineRecord). left h.central h.peripheral (record { machine = x; rounds = made })) w
        ∙ ap left_after (t ∙ ap (λ (l : List ℕ). rounds_of n (processors_in m) (lent l)) e)

  -- what a turn or a run leaves may be lent again
  module _ (a : machine_verdict true c m r ≡ Ok tt) (count : length r.central.registers ≡ 24) where
    pub turn-lent-again : (n : ℕ) → n < processors_in m
        → let h = processor_turned (machine_of c m r) n in machine_verdict true h.central h.peripheral (record_of h.registers h.numbers) ≡ Ok tt
    turn-lent-again n l =
        let few = processors-few c m r a in
        machine-lent-again (processors_in m) _ few.0 few.1
        (processor-keeps (processors_in m * 4096) n (machine_of c m r) (omega arith) (machine-kept c m r a count) (omega (arith, few.1)))

    pub run-lent-again : (n : ℕ)
        → let h = (rounds_of n (processors_in m) (machine_of c m r)).machine in machine_verdict true h.central h.peripheral (record_of h.registers h.numbers) ≡ Ok tt
    run-lent-again n =
        let few = processors-few c m r a in
        machine-lent-again (processors_in m) _ few.0 few.1
        (run-keeps (processors_in m) few.1 n (machine_of c m r) (machine-kept c m r a count))
