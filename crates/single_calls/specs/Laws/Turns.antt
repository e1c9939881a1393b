-- Many turns: n and then k are n + k; one is that of `central_turn`; what is handed back may be lent again.
use Rattle.std.specs.Prelude.{Bool, cond, List, ◌≡◌, eqb, ltb, length, Ok, Err}
use Rattle.std.proofs.Math.Bool.{true, false}
use Rattle.std.proofs.Math.Path.{refl, sym, ap}
use Rattle.std.proofs.Common.{◌∙◌, zero-add, arith, lit≤}
use Prim.Native.Nat.{ℕ, zero, suc, ◌+◌, ◌≤◌, ◌<◌}
use borrow.Author.Tests.{eqb-false, ltb-false, le-ltb}
use Rattle.base_logic.specs.Laws.Choice.{of-cond}
use Rattle.base_outcome.specs.declared.refusal.Refusal.TheVariants as Because
use Rattle.base_outcome.specs.Laws.Verdict.{either, both-accept, by-fault}
use Rattle.central_record.specs.Record.{host_verdict}
use Rattle.central_record.specs.declared.record.Central.{Central}
use Rattle.exchange_jump.specs.Accepted.{HostAccepted}
use Rattle.exchange_jump.specs.Laws.Verdicts.{host-accepted, of-host-accepted}
use Rattle.single_calls.specs.RecordCalls.{CentralMachine, central_machine, turned_once, CentralAnswered, central_answer_to, central_answered, central_answer_by, turn_answer}
use Rattle.base_outcome.specs.Order.{or_else}
use Rattle.single_calls.specs.Turns.{Turned, turned_to, more_turned, turned_up_to, most_turns, turns_verdict, TurnsAnswered, turns_answer_to, turns_answered, turns_answer_by, turns_answer}
use Rattle.single_calls.specs.Laws.RecordCalls.{stopped-stays, turned-host, turned-count}

-- counts add up
no-turns-before : (o : Turned) → more_turned 0 o ≡ o
no-turns-before o = ap (turned_to o.machine) (zero-add o.turns)

before-before : (i k : ℕ) (o : Turned) → more_turned i (more_turned k o) ≡ more_turned (i + k) o
before-before i k o =
    let e : i + (k + o.turns) ≡ (i + k) + o.turns = omega arith in
    ap (turned_to o.machine) e

module _ (h : CentralMachine) where
  -- a stopped processor makes none
  pub stopped_none : (n : ℕ) → eqb h.central.stop 0 ≡ false → turned_to h 0 ≡ turned_up_to n h
  unfolding turned_up_to
  stopped_none zero e = refl
  stopped_none (suc n) e = rw e

  -- the first turn of a running one
  pub running-first : (n : ℕ) → eqb h.central.stop 0 ≡ true
      → more_turned 1 (turned_up_to n (turned_once h.memory h.central)) ≡ turned_up_to (suc n) h
  unfolding turned_up_to
  running-first n e = rw e

-- turns that go on from where o ended
abbrev pub then_turned : ℕ → Turned → Turned
then_turned k o = more_turned o.turns (turned_up_to k o.machine)

-- n turns and then k are n + k turns, also where the first were ended by a stop
pub turned-add : (n k : ℕ) (h : CentralMachine) → turned_up_to (n + k) h ≡ then_turned k (turned_up_to n h)
unfolding turned_up_to
turned-add zero k h = rw (zero-add k) (sym (no-turns-before (turned_up_to k h)))
turned-add (suc n) k h =
    let e : suc n + k ≡ suc (n + k) = omega arith in
    rw e (split (eqb h.central.stop 0) refl (turned-add n k (turned_once h.memory h.central)))
  where
    split : (z : Bool) → eqb h.central.stop 0 ≡ z
        → turned_up_to (n + k) (turned_once h.memory h.central) ≡ then_turned k (turned_up_to n (turned_once h.memory h.central))
        → cond z (more_turned 1 (turned_up_to (n + k) (turned_once h.memory h.central))) (turned_to h 0)
        ≡ then_turned k (cond z (more_turned 1 (turned_up_to n (turned_once h.memory h.central))) (turned_to h 0))
    split true e rest = ap (more_turned 1) rest ∙ before-before 1 _ _
    split false e rest = stopped_none h k e ∙ sym (no-turns-before (turned_up_to k h))

-- at most the turns asked are made
pub turned-most : (n : ℕ) (h : CentralMachine) → (turned_up_to n h).turns ≤ n
unfolding turned_up_to
turned-most zero h = lit≤ tt
turned-most (suc n) h =
    of-cond (λ (o : Turned). o.turns ≤ suc n) (eqb h.central.stop 0)
    (λ e. omega (arith, turned-most n (turned_once h.memory h.central))) (λ e. omega arith)

-- a count below the turns asked says that there is a stop
pub fewer-stopped : (n : ℕ) (h : CentralMachine) → (turned_up_to n h).turns < n → (turned_up_to n h).machine.central.stop ≡ 0 → ⊥
unfolding turned_up_to
fewer-stopped zero h = λ fewer. absurd (omega arith)
fewer-stopped (suc n) h =
    of-cond (λ (o : Turned). o.turns < suc n → o.machine.central.stop ≡ 0 → ⊥) (eqb h.central.stop 0)
    (λ e fewer. fewer-stopped n (turned_once h.memory h.central) (omega arith))
    (λ e fewer. eqb-false h.central.stop 0 e)

-- an answer as that of `central_turn`
abbrev pub without_count : TurnsAnswered → CentralAnswered
without_count a = central_answer_to a.memory (record { verdict = a.answer.verdict; central = a.answer.central })

-- one turn is that of `central_turn`
module _ (m : List ℕ) (c : Central) where
  one-by-stop : (z : Bool) → eqb c.stop 0 ≡ z → turned_up_to 1 (central_machine m c) ≡ turned_to (turned_once m c) (cond z 1 0)
  unfolding turned_up_to
  one-by-stop true e = sym (running-first (central_machine m c) 0 e)
  one-by-stop false e = sym (stopped_none (central_machine m c) 1 e) ∙ ap (λ (h : CentralMachine). turned_to h 0) (sym (stopped-stays m c e))

  pub one-turn : turned_up_to 1 (central_machine m c) ≡ turned_to (turned_once m c) (cond (eqb c.stop 0) 1 0)
  one-turn = one-by-stop (eqb c.stop 0) refl

  pub one-turn-answer : without_count (turns_answer m c 1) ≡ turn_answer m c
  unfolding turns_answer turns_verdict turn_answer
  one-turn-answer =
      either
      (λ v. without_count (turns_answer_by (or_else v (Ok tt)) (central_machine m c) (turned_up_to 1 (central_machine m c))) ≡ central_answer_by v (central_machine m c) (turned_once m c))
      (host_verdict m c) (λ e. ap (λ (o : Turned). central_answered (Ok tt) o.machine) one-turn) (λ r. refl)

-- a memory and a record that may be lent may be lent again after turns
pub turned-accepted : (n : ℕ) (h : CentralMachine) → HostAccepted h.memory h.central → length h.central.registers ≡ 24
    → HostAccepted (turned_up_to n h).machine.memory (turned_up_to n h).machine.central
unfolding turned_up_to
turned-accepted zero h l count = l
turned-accepted (suc n) h l count =
    of-cond (λ (o : Turned). HostAccepted o.machine.memory o.machine.central) (eqb h.central.stop 0)
    (λ e. turned-accepted n (turned_once h.memory h.central) (turned-host h.memory h.central l count)
    (turned-count h.memory h.central l count))
    (λ e. l)

-- what an accepted call is
module _ (m : List ℕ) (c : Central) (n : ℕ) where
  pub turns-accepted : turns_verdict m c n ≡ Ok tt → HostAccepted m c × (n ≤ most_turns)
  unfolding turns_verdict
  turns-accepted e =
      let tests = both-accept (host_verdict m c) (cond (ltb most_turns n) (Err Because.TooManyTurns) (Ok tt)) e in
      (host-accepted m c tests.0, ltb-false most_turns n (by-fault (ltb most_turns n) Because.TooManyTurns (Ok tt) tests.1).0)

  pub of-turns-accepted : HostAccepted m c → n ≤ most_turns → turns_verdict m c n ≡ Ok tt
  unfolding turns_verdict
  of-turns-accepted l few = rw (of-host-accepted m c l, le-ltb most_turns n few)

-- an answer, its turns counted on from n
abbrev pub counted_from : ℕ → TurnsAnswered → TurnsAnswered
counted_from n a =
    turns_answer_to a.memory (record { verdict = a.answer.verdict; central = a.answer.central; turns = n + a.answer.turns })

-- on the answers. The registers of a record are 24
module _ (m : List ℕ) (c : Central) (count : length c.registers ≡ 24) (n : ℕ) (e : turns_verdict m c n ≡ Ok tt) where
  abbrev made : Turned
  made = turned_up_to n (central_machine m c)

  again : (k : ℕ) → k ≤ most_turns → turns_verdict made.machine.memory made.machine.central k ≡ Ok tt
  again k few = of-turns-accepted _ _ k (turned-accepted n (central_machine m c) (turns-accepted m c n e).0 count) few

  -- what an accepted call hands back may be lent again
  pub lent_again : (k : ℕ) → k ≤ most_turns → turns_verdict (turns_answer m c n).memory (turns_answer m c n).answer.central k ≡ Ok tt
  unfolding turns_answer
  lent_again k few = rw e (again k few)

  -- an accepted call of n turns, and one of k on what it handed back, are one call of n + k: memory, record, verdict and the sum of the counts
  pub answers-add : (k : ℕ) → n + k ≤ most_turns
      → counted_from (turns_answer m c n).answer.turns (turns_answer (turns_answer m c n).memory (turns_answer m c n).answer.central k)
      ≡ turns_answer m c (n + k)
  unfolding turns_answer
  answers-add k few =
      rw (e, again k (omega arith), of-turns-accepted m c (n + k) (turns-accepted m c n e).0 few)
      (ap (turns_answered (Ok tt)) (sym (turned-add n k (central_machine m c))))
