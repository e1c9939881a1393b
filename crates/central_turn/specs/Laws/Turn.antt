-- A turn as a loop over the parcels, and what it keeps.
use Rattle.std.specs.Prelude.{true, ◌≡◌, ltb, Option, None}
use Rattle.std.proofs.Math.Path.{refl}
use Rattle.std.proofs.Common.{sym, ap, subst, ◌∙◌, arith, lt-ltb, le-ltb, ltb-true}
use Prim.Native.Nat.{ℕ, zero, suc, ◌+◌, ◌^◌, ◌≤◌, ◌<◌}
use Rattle.base_logic.specs.Laws.Choice.{of-cond}
use Rattle.base_outcome.specs.Numbers.{central_stop_listed}
use Rattle.base_outcome.proofs.Numbers.{central-stop-listed}
use Rattle.central_apply.specs.declared.apply.Step.TheVariants as Then
use Rattle.central_apply.specs.State.{State}
use Rattle.central_field.specs.Address.{place_of}
use Rattle.central_apply.specs.Apply.{After}
use Rattle.central_turn.specs.Turn.{stop_number, step_of, Turn, turned, turn_end, go_on, parcels_run, word_run, fetched, turn_of}
use Rattle.central_apply.specs.Widths.{StateKept}
use Rattle.central_apply.proofs.Widths.{KeptAfter}
use Rattle.central_turn.specs.Laws.Step.{Later, step_keeps, step-reaches}
use Rattle.central_field.specs.declared.address.Bounds.{Bounds}
use Rattle.central_apply.specs.declared.apply.Step.{Step}
use Rattle.central_turn.specs.declared.turn.TurnEnd.{TurnEnd}
use Rattle.central_field.specs.declared.address.Absolute.{Absolute}

-- the state of the loop: what is left to run gives what the whole word gives
pub record WordGoing (b : Bounds) (p w : ℕ) (s₀ s : State) (place : ℕ) : Type 0 where
  pub kept : StateKept b.fl s
  pub most : ℕ
  pub enough : 4 ≤ place + most
  pub is : parcels_run most b p w s place ≡ word_run b p w s₀

pub word-going-start : (b : Bounds) (p w : ℕ) (s : State) → StateKept b.fl s → WordGoing b p w s s 0
word-going-start b p w s k = record { kept = k; most = 4; enough = omega arith; is = refl }

module _ (b : Bounds) (p w : ℕ) (s : State) where
  run_end : (most place : ℕ) → 4 ≤ place → turned s (turn_end (p + 1) None) ≡ parcels_run most b p w s place
  unfolding parcels_run
  run_end zero place h = refl
  run_end (suc most) place h = rw (le-ltb place 4 h)

  run_step : (most place : ℕ) → place < 4
      → parcels_run (suc most) b p w s place ≡ go_on p (parcels_run most b p w) (step_of s b p w place).state (step_of s b p w place).step
  unfolding parcels_run
  run_step most place h = rw (lt-ltb place 4 h)

-- b is a field in central memory, and p an address in it
module _ (b : Bounds) (p w : ℕ) (room : b.fl ≤ 131072) (inside : p < b.fl) (s₀ s : State) (place : ℕ) (g : WordGoing b p w s₀ s place) where
  pub word-going-end : 4 ≤ place → turned s (turn_end (p + 1) None) ≡ word_run b p w s₀
  word-going-end h = run_end b p w s g.most place h ∙ g.is

  -- the step that follows is o
  module _ (h : place < 4) (a : After) (e : a ≡ step_of s b p w place) (o : Step) (i : a.step ≡ o) where
    stepped : (most : ℕ) → 4 ≤ place + most → parcels_run most b p w s place ≡ word_run b p w s₀
        → (fewer : ℕ) × ((most ≡ suc fewer) × (go_on p (parcels_run fewer b p w) a.state o ≡ word_run b p w s₀))
    stepped zero l r = absurd (omega arith)
    stepped (suc fewer) l r =
        let rest : State → ℕ → Turn = parcels_run fewer b p w in
        let by-step = sym (ap (go_on p rest a.state) i) ∙ ap (λ (x : After). go_on p rest x.state x.step) e in
        (fewer, (refl, by-step ∙ sym (run_step b p w s fewer place h) ∙ r))

    later : Later place o
    later =
        subst (Later place) i
        (subst (λ (x : After). Later place x.step) (sym e)
        (step-reaches b.fl s b p w place (omega arith) room g.kept))

    -- where nothing of the word is run after the step
    pub going-out : (t : TurnEnd) → ((rest : State → ℕ → Turn) → go_on p rest a.state o ≡ turned a.state t)
        → turned a.state t ≡ word_run b p w s₀
    going-out t ends = sym (ends (parcels_run (stepped g.most g.enough g.is).0 b p w)) ∙ (stepped g.most g.enough g.is).1.1

  pub word-going-on : (h : place < 4) (a : After) (e : a ≡ step_of s b p w place) (next : ℕ) → a.step ≡ Then.Next next
      → ((place < next) × (next ≤ 4)) × WordGoing b p w s₀ a.state next
  word-going-on h a e next i =
      let o = stepped h a e (Then.Next next) i g.most g.enough g.is in
      let l : (place < next) × (next ≤ 4) = later h a e (Then.Next next) i in
      let m : g.most ≡ suc o.0 = o.1.0 in (
        l,
        record {
          kept = subst (KeptAfter b.fl) (sym e) (step_keeps b.fl s b p w place (omega arith) g.kept);
          most = o.0;
          enough = omega (arith, g.enough);
          is = o.1.1;
        },
      )

-- what a turn leaves: the widths, a P of 18 bits, and a stop of a record, if any
pub record TurnKept (n : ℕ) (t : Turn) : Type 0 where
  pub kept : StateKept n t.state
  pub p : t.end.p < 2 ^ 18
  pub stop : central_stop_listed (stop_number t.end.stop) ≡ true

module _ (n : ℕ) (b : Bounds) (room : b.fl ≤ 131072) where
  go-on-left : (p place : ℕ) → p < 2 ^ 18 → (rest : State → ℕ → Turn) → ((s : State) (k : ℕ) → StateKept n s → TurnKept n (rest s k))
      → (s : State) (o : Step) → StateKept n s → Later place o → TurnKept n (go_on p rest s o)
  go-on-left p place h rest r s (Then.Next k) kept l = r s k kept
  go-on-left p place h rest r s (Then.Branch t) kept l = record { kept = kept; p = l; stop = refl }
  go-on-left p place h rest r s (Then.Stop c) kept l = record { kept = kept; p = h; stop = central-stop-listed c }

  parcels-left : (p w : ℕ) → p < b.fl → (most : ℕ) (s : State) (place : ℕ) → StateKept n s → TurnKept n (parcels_run most b p w s place)
  unfolding parcels_run
  parcels-left p w h zero s place k = record { kept = k; p = omega arith; stop = refl }
  parcels-left p w h (suc most) s place k =
      of-cond (TurnKept n) (ltb place 4)
      (λ e.
      go-on-left p place (omega arith) (parcels_run most b p w) (parcels-left p w h most) _ (step_of s b p w place).step
      (step_keeps n s b p w place (omega arith) k)
      (step-reaches n s b p w place (omega arith) room k))
      (λ e. record { kept = k; p = omega arith; stop = refl })

  pub turn-left : (p : ℕ) (s : State) → p < 2 ^ 18 → StateKept n s → TurnKept n (turn_of b p s)
  unfolding turn_of place_of
  turn-left p s h k =
      of-cond (λ (x : Option Absolute). TurnKept n (fetched b p s x)) (ltb p b.fl)
      (λ e. parcels-left p _ (ltb-true p b.fl e) 4 s 0 k)
      (λ e. record { kept = k; p = h; stop = refl })
