-- The central processor's turn and the clock in a round.
use Rattle.std.specs.Prelude.{List, ◌≡◌, refl, ℕ, length, get_or}
use Rattle.std.proofs.Common.{sym, ap, subst, ◌∙◌, arith, ne_eqb, length-set}
use Rattle.central_apply.specs.State.{state}
use Rattle.central_turn.specs.Turn.{stop_number, Run}
use Rattle.exchange_jump.specs.Accepted.{HostAccepted}
use Rattle.base_lists.specs.Parts.{splice}
use Rattle.single_stint.specs.Field.{field_run, after_run, ran_on}
use Rattle.single_calls.specs.RecordCalls as Host
use Rattle.single_calls.specs.Laws.RecordCalls.{once_is, stopped-stays, turned-host, turned-count, turned-length}
use Rattle.peripheral_machine.specs.Numbers.{central_of, central_stop, with_controls}
use Rattle.peripheral_machine.specs.Machine.{CentralSide, central_side}
use Rattle.peripheral_machine.specs.Widths.{NumbersWide}
use Rattle.peripheral_machine.specs.Laws.Widths.{clock-ticks, wide-controls, length-controls, controls-own, central-read, central-kept-clock}
use Rattle.whole_rounds.specs.Rounds.{after_central_turn, central_turn_of, ticked}

-- "A turn of a stopped processor changes nothing."
pub central-stopped : (c x s : List ℕ) → (central_stop s ≡ 0 → ⊥) → central_side c x s ≡ central_turn_of c x s
unfolding central_turn_of
central-stopped c x s h =
    let e : after_central_turn s (Host.central_machine c (central_of x s)) ≡ central_side c x s = ap (central_side c x) (controls-own x s) in
    sym (ap (after_central_turn s) (stopped-stays c (central_of x s) (ne_eqb (central_stop s) 0 h)) ∙ e)

-- the turn of a running one on its field
pub central-running : (c x s : List ℕ) → central_stop s ≡ 0 → (o : Run) → o ≡ field_run c (central_of x s) 1
    → (s' : List ℕ) → s' ≡ with_controls s o.end.p (get_or s 79 0) (get_or s 80 0) (get_or s 81 0) (stop_number o.end.stop)
    → central_side (splice c (get_or s 79 0) (get_or s 80 0) o.state.field) o.state.registers s' ≡ central_turn_of c x s
unfolding central_turn_of ran_on
central-running c x s z o e s' w =
    ap (central_side (splice c (get_or s 79 0) (get_or s 80 0) o.state.field) o.state.registers) w
    ∙ ap (λ (r : Run). after_central_turn s (Host.central_machine (after_run c (central_of x s) r).memory (after_run c (central_of x s) r).end.central)) e
    ∙ ap (after_central_turn s) (once_is c (central_of x s) (ran_on c (central_of x s) 1) refl z)

-- the machine after the central turn
pub record CentralKept (n : ℕ) (o : CentralSide) : Type 0 where
  pub host : HostAccepted o.central (central_of o.registers o.numbers)
  pub count : length o.registers ≡ 24
  pub places : length o.numbers ≡ 84
  pub wide : NumbersWide o.numbers
  pub long : length o.central ≡ n

pub central-keeps : (c x s : List ℕ) → HostAccepted c (central_of x s) → length x ≡ 24 → length s ≡ 84 → NumbersWide s
    → CentralKept (length c) (central_turn_of c x s)
unfolding central_turn_of
central-keeps c x s host count places wide =
    let o = Host.turned_once c (central_of x s) in
    record {
      host = subst (HostAccepted o.memory) (sym (central-read s o.central (omega arith))) (turned-host c (central_of x s) host count);
      count = turned-count c (central_of x s) host count;
      places = length-controls s _ _ _ _ _ ∙ places;
      wide = wide-controls s _ _ _ _ _ wide;
      long = turned-length c (central_of x s) host count;
    }

pub tick-wide : (s : List ℕ) → NumbersWide s → NumbersWide (ticked s)
unfolding ticked
tick-wide s w = clock-ticks s w

pub tick-places : (s : List ℕ) → length (ticked s) ≡ length s
unfolding ticked
tick-places s = length-set s 83 _

pub tick-central : (x s : List ℕ) → central_of x (ticked s) ≡ central_of x s
unfolding ticked
tick-central x s = central-kept-clock x s _
