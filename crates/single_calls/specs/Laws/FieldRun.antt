-- Turns of a running processor are one run on its field.
use Rattle.std.specs.Prelude.{Bool, is_none, ◌≡◌, refl, ℕ, zero, suc, eqb, length}
use Rattle.std.proofs.Math.Bool.{true, false}
use mathlib.Core.List.{List}
use Rattle.std.proofs.Common.{sym, ap, subst, ◌∙◌, eqb-true, eq-eqb}
use Rattle.central_apply.specs.State.{state}
use Rattle.central_turn.specs.Turn.{stop_number, Turn, turn_of, turns_of}
use Rattle.central_turn.specs.Laws.Run.{RunKept, turns-one}
use Rattle.central_turn.specs.Laws.Stop.{number-of-none}
use Rattle.base_lists.specs.Parts.{part}
use Rattle.base_lists.specs.Laws.Parts.{splice-part, part-splice, splice-splice}
use Rattle.central_record.specs.declared.record.Central.{Central}
use Rattle.exchange_jump.specs.Accepted.{HostAccepted}
use Rattle.single_stint.specs.Field.{RanMemory, ran_to, bounds_of, after_run, ran_on}
use Rattle.single_stint.specs.Laws.Field.{field-inside, ran-left}
use Rattle.single_calls.specs.RecordCalls.{central_machine, central_after_turn, turned_once}
use Rattle.single_calls.specs.Turns.{Turned, turned_to, more_turned, turned_up_to}
use Rattle.single_calls.specs.Laws.RecordCalls.{turned-host, turned-count}
use Rattle.single_calls.specs.Laws.Turns.{stopped_none, running-first}

-- the run of a field, as turns of memory and record
abbrev pub ran_turns : RanMemory → Turned
ran_turns o = turned_to (central_machine o.memory o.end.central) o.end.turns

-- a run of no turns
ran-none : (m : List ℕ) (c : Central) → c.stop ≡ 0 → ran_turns (ran_on m c 0) ≡ turned_to (central_machine m c) 0
unfolding ran_on turns_of
ran-none m c running =
    rw (splice-part m c.ra c.fl)
    (ap (λ (s : ℕ). turned_to (central_machine m (record { p = c.p; ra = c.ra; fl = c.fl; em = c.em; registers = c.registers; stop = s })) 0) (sym running))

abbrev turn_on : List ℕ → Central → Turn
turn_on m c = turn_of (bounds_of c) c.p (state c.registers (part m c.ra c.fl))

-- what follows the first turn of a run is a run of what that turn left
module _ (m : List ℕ) (c : Central) (l : HostAccepted m c) (count : length c.registers ≡ 24) where
  turn-field : length (turn_on m c).state.field ≡ c.fl
  turn-field =
      (subst (RunKept c.fl) (turns-one (bounds_of c) c.p (state c.registers (part m c.ra c.fl))) (ran-left m c l count 1)).kept.size

  run-after-turn : (n : ℕ)
      → ran_on (central_after_turn m c (turn_on m c)).memory (central_after_turn m c (turn_on m c)).central n
      ≡ after_run m c (turns_of n (bounds_of c) (turn_on m c).end.p (turn_on m c).state)
  unfolding ran_on
  run-after-turn n =
      rw (part-splice m c.ra c.fl (turn_on m c).state.field (field-inside m c l) turn-field)
      (ap (λ (x : List ℕ). ran_to x (after_run m c (turns_of n (bounds_of c) (turn_on m c).end.p (turn_on m c).state)).end)
      (splice-splice m c.ra c.fl (turn_on m c).state.field (field-inside m c l) turn-field
      (turns_of n (bounds_of c) (turn_on m c).end.p (turn_on m c).state).state.field))

  module _ (running : c.stop ≡ 0) where
    once : central_after_turn m c (turn_on m c) ≡ turned_once m c
    unfolding turned_once
    once = rw (eq-eqb c.stop 0 running)

    first-turn : (n : ℕ)
        → ((turned_once m c).central.stop ≡ 0 → ran_turns (ran_on (turned_once m c).memory (turned_once m c).central n) ≡ turned_up_to n (turned_once m c))
        → (z : Bool) → is_none (turn_on m c).end.stop ≡ z → ran_turns (ran_on m c (suc n)) ≡ more_turned 1 (turned_up_to n (turned_once m c))
    unfolding ran_on turns_of
    first-turn n rest true z =
        rw (z, ← once)
        (ap (more_turned 1) (ap ran_turns (sym (run-after-turn n)) ∙ (rw (← once) at rest) (eqb-true (stop_number (turn_on m c).end.stop) 0 (number-of-none (turn_on m c).end.stop ∙ z))))
    first-turn n rest false z = rw (z, ← once) (ap (more_turned 1) (stopped_none (central_after_turn m c (turn_on m c)) n (number-of-none (turn_on m c).end.stop ∙ z)))

-- turns of a running processor are one run on its field
pub ran-is : (n : ℕ) (m : List ℕ) (c : Central) → HostAccepted m c → length c.registers ≡ 24 → c.stop ≡ 0
    → ran_turns (ran_on m c n) ≡ turned_up_to n (central_machine m c)
unfolding turned_up_to
ran-is zero m c l count running = ran-none m c running
ran-is (suc n) m c l count running =
    first-turn m c l count running n
    (ran-is n (turned_once m c).memory (turned_once m c).central (turned-host m c l count) (turned-count m c l count))
    (is_none (turn_on m c).end.stop) refl
    ∙ running-first (central_machine m c) n (eq-eqb c.stop 0 running)
