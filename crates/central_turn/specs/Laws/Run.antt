-- A run as a loop over the turns, what it keeps, and runs one after the other.
use Rattle.std.specs.Prelude.{Bool, true, false, cond, ◌≡◌, None, is_some, is_none}
use Rattle.std.proofs.Math.Path.{refl}
use Rattle.std.proofs.Common.{sym, ap, subst, ◌∙◌, zero-add, arith, lit≤}
use Prim.Native.Nat.{ℕ, zero, suc, ◌+◌, ◌^◌, ◌≤◌, ◌<◌}
use Rattle.base_logic.specs.Laws.Choice.{of-cond}
use Rattle.base_outcome.specs.Numbers.{central_stop_listed}
use Rattle.central_apply.specs.State.{State}
use Rattle.central_turn.specs.Turn.{stop_number, Turn, turn_of, Run, ran, run_end, turns_before, turns_of}
use Rattle.central_apply.specs.Widths.{StateKept}
use Rattle.central_turn.specs.Laws.Stop.{none-is, is-none, is-not-none}
use Rattle.central_turn.specs.Laws.Turn.{TurnKept, turn-left}
use Rattle.central_field.specs.declared.address.Bounds.{Bounds}

-- counts add up
no-turns-before : (o : Run) → turns_before 0 o ≡ o
no-turns-before o =
    let e : 0 + o.end.turns ≡ o.end.turns = omega arith in
    ap (λ (t : ℕ). ran o.state (run_end o.end.p o.end.stop t)) e

before-before : (i k : ℕ) (o : Run) → turns_before i (turns_before k o) ≡ turns_before (i + k) o
before-before i k o =
    let e : i + (k + o.end.turns) ≡ (i + k) + o.end.turns = omega arith in
    ap (λ (t : ℕ). ran o.state (run_end o.end.p o.end.stop t)) e

-- the first turn of a run, where it stops and where it does not
module _ (b : Bounds) (p n : ℕ) (s : State) (t : Turn) (e : t ≡ turn_of b p s) where
  first_stops : is_some t.end.stop ≡ true → ran t.state (run_end t.end.p t.end.stop 1) ≡ turns_of (suc n) b p s
  unfolding turns_of
  first_stops h = rw (← e, h)

  first-goes-on : is_some t.end.stop ≡ false → turns_before 1 (turns_of n b t.end.p t.state) ≡ turns_of (suc n) b p s
  unfolding turns_of
  first-goes-on h = rw (← e, h)

-- the state of the loop: after the turns made, what is to run gives what the whole run gives
pub record RunGoing (b : Bounds) (n p₀ : ℕ) (s₀ s : State) (p made : ℕ) : Type 0 where
  pub kept : StateKept b.fl s
  pub short : p < 2 ^ 18
  pub left : ℕ
  pub total : made + left ≡ n
  pub is : turns_before made (turns_of left b p s) ≡ turns_of n b p₀ s₀

pub run-going-start : (b : Bounds) (n p : ℕ) (s : State) → p < 2 ^ 18 → StateKept b.fl s → RunGoing b n p s s p 0
run-going-start b n p s h k =
    record { kept = k; short = h; left = n; total = omega arith; is = no-turns-before (turns_of n b p s) }

none_left : (b : Bounds) (p i left : ℕ) (s : State) → left ≡ 0 → ran s (run_end p None i) ≡ turns_before i (turns_of left b p s)
unfolding turns_of
none_left b p i zero s e = let h : i ≡ i + 0 = omega arith in ap (λ (t : ℕ). ran s (run_end p None t)) h
none_left b p i (suc left) s e = absurd (omega arith)

module _ (b : Bounds) (room : b.fl ≤ 131072) (n p₀ : ℕ) (s₀ s : State) (p made : ℕ) (g : RunGoing b n p₀ s₀ s p made) where
  pub run-going-end : n ≤ made → ran s (run_end p None n) ≡ turns_of n b p₀ s₀
  run-going-end h =
      let z : n ≡ made = omega (arith, g.total) in
      ap (λ (i : ℕ). ran s (run_end p None i)) z ∙ none_left b p made g.left s (omega (arith, g.total)) ∙ g.is

  module _ (h : made < n) (t : Turn) (e : t ≡ turn_of b p s) where
    stops : (left : ℕ) → made + left ≡ n → turns_before made (turns_of left b p s) ≡ turns_of n b p₀ s₀ → is_some t.end.stop ≡ true
        → ran t.state (run_end t.end.p t.end.stop (made + 1)) ≡ turns_of n b p₀ s₀
    stops zero l a o = absurd (omega arith)
    stops (suc k) l a o = ap (turns_before made) (first_stops b p k s t e o) ∙ a

    pub run-going-stop : is_some t.end.stop ≡ true → ran t.state (run_end t.end.p t.end.stop (made + 1)) ≡ turns_of n b p₀ s₀
    run-going-stop o = stops g.left g.total g.is o

    goes_on : (left : ℕ) → made + left ≡ n → turns_before made (turns_of left b p s) ≡ turns_of n b p₀ s₀ → is_some t.end.stop ≡ false
        → RunGoing b n p₀ s₀ t.state t.end.p (made + 1)
    goes_on zero l a o = absurd (omega arith)
    goes_on (suc k) l a o =
        let after = subst (TurnKept b.fl) (sym e) (turn-left b.fl b room p s g.short g.kept) in
        record {
          kept = after.kept;
          short = after.p;
          left = k;
          total = omega arith;
          is = sym (before-before made 1 _) ∙ ap (turns_before made) (first-goes-on b p k s t e o) ∙ a;
        }

    pub run-going-on : is_some t.end.stop ≡ false → RunGoing b n p₀ s₀ t.state t.end.p (made + 1)
    run-going-on o = goes_on g.left g.total g.is o

-- what a run leaves
pub record RunKept (n : ℕ) (o : Run) : Type 0 where
  pub kept : StateKept n o.state
  pub p : o.end.p < 2 ^ 18
  pub stop : central_stop_listed (stop_number o.end.stop) ≡ true

module _ (n : ℕ) (b : Bounds) (room : b.fl ≤ 131072) where
  pub run-left : (k p : ℕ) (s : State) → p < 2 ^ 18 → StateKept n s → RunKept n (turns_of k b p s)
  unfolding turns_of
  run-left zero p s h kept = record { kept = kept; p = h; stop = refl }
  run-left (suc k) p s h kept =
      let t = turn-left n b room p s h kept in
      of-cond (RunKept n) (is_none (turn_of b p s).end.stop)
      (λ e. let o = run-left k _ _ t.p t.kept in record { kept = o.kept; p = o.p; stop = o.stop })
      (λ e. record { kept = t.kept; p = t.p; stop = t.stop })

-- a run makes at most the turns asked
pub turns-most : (n : ℕ) (b : Bounds) (p : ℕ) (s : State) → (turns_of n b p s).end.turns ≤ n
unfolding turns_of
turns-most zero b p s = lit≤ tt
turns-most (suc n) b p s =
    of-cond (λ (o : Run). o.end.turns ≤ suc n) (is_none (turn_of b p s).end.stop)
    (λ e. omega (arith, turns-most n b (turn_of b p s).end.p (turn_of b p s).state)) (λ e. omega arith)

-- a run that does not stop makes all the turns asked
pub turns-all : (n : ℕ) (b : Bounds) (p : ℕ) (s : State) → (turns_of n b p s).end.stop ≡ None → (turns_of n b p s).end.turns ≡ n
unfolding turns_of
turns-all zero b p s = λ e. refl
turns-all (suc n) b p s =
    let t = turn_of b p s in
    of-cond (λ (o : Run). o.end.stop ≡ None → o.end.turns ≡ suc n) (is_none t.end.stop)
    (λ e h. omega (arith, turns-all n b t.end.p t.state h)) (λ e h. absurd (is-not-none t.end.stop e h))

-- a stop comes with the turn that met it
pub stop-takes-turn : (n : ℕ) (b : Bounds) (p : ℕ) (s : State) → ((turns_of n b p s).end.stop ≡ None → ⊥) → 1 ≤ (turns_of n b p s).end.turns
unfolding turns_of
stop-takes-turn zero b p s = λ h. absurd (h refl)
stop-takes-turn (suc n) b p s =
    of-cond (λ (o : Run). (o.end.stop ≡ None → ⊥) → 1 ≤ o.end.turns) (is_none (turn_of b p s).end.stop)
    (λ e h. omega arith) (λ e h. omega arith)

-- a run that goes on from where o ended
abbrev pub then_turns : ℕ → Bounds → Run → Run
then_turns k b o = turns_before o.end.turns (turns_of k b o.end.p o.state)

more-turns : (b : Bounds) (p n k : ℕ) (s : State) (t : Turn) → t ≡ turn_of b p s
    → ((turns_of n b t.end.p t.state).end.stop ≡ None → turns_of (n + k) b t.end.p t.state ≡ then_turns k b (turns_of n b t.end.p t.state))
    → (z : Bool) → is_none t.end.stop ≡ z
    → (cond z (turns_before 1 (turns_of n b t.end.p t.state)) (ran t.state (run_end t.end.p t.end.stop 1))).end.stop ≡ None
    → turns_of (suc (n + k)) b p s
    ≡ then_turns k b (cond z (turns_before 1 (turns_of n b t.end.p t.state)) (ran t.state (run_end t.end.p t.end.stop 1)))
more-turns b p n k s t e rest true z h =
    sym (first-goes-on b p (n + k) s t e (none-is t.end.stop z)) ∙ ap (turns_before 1) (rest h) ∙ before-before 1 _ _
more-turns b p n k s t e rest false z h = absurd (is-not-none t.end.stop z h)

-- n turns without a stop and then k are n + k turns
pub turns-then-turns : (n k : ℕ) (b : Bounds) (p : ℕ) (s : State) → (turns_of n b p s).end.stop ≡ None → turns_of (n + k) b p s ≡ then_turns k b (turns_of n b p s)
unfolding turns_of
turns-then-turns zero k b p s h = rw (zero-add k) (sym (no-turns-before (turns_of k b p s)))
turns-then-turns (suc n) k b p s h =
    let t = turn_of b p s in
    let e : suc n + k ≡ suc (n + k) = omega arith in
    rw e (more-turns b p n k s t refl (turns-then-turns n k b t.end.p t.state) (is_none t.end.stop) refl h)

one-turn : (b : Bounds) (t : Turn) (z : Bool) → is_none t.end.stop ≡ z
    → cond z (turns_before 1 (turns_of 0 b t.end.p t.state)) (ran t.state (run_end t.end.p t.end.stop 1))
    ≡ ran t.state (run_end t.end.p t.end.stop 1)
unfolding turns_of
one-turn b t true z = rw (is-none t.end.stop z)
one-turn b t false z = refl

-- a run of one turn is that turn
pub turns-one : (b : Bounds) (p : ℕ) (s : State)
    → turns_of 1 b p s ≡ ran (turn_of b p s).state (run_end (turn_of b p s).end.p (turn_of b p s).end.stop 1)
unfolding turns_of
turns-one b p s = one-turn b (turn_of b p s) (is_none (turn_of b p s).end.stop) refl
