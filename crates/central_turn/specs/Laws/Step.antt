-- One instruction: what it keeps, and where it goes on.
use Rattle.std.specs.Prelude.{List, ◌≡◌, refl, ℕ, ◌+◌, ◌^◌, ◌≤◌, ◌<◌, eqb, ltb, Option, Some, None}
use Rattle.std.proofs.Common.{arith, ltb-true, ltb-false}
use Rattle.base_logic.specs.Laws.Choice.{of-cond}
use Rattle.central_codes.specs.Codes.{is_fit, parcels_of}
use Rattle.central_decode.specs.Instruction.{decoded}
use Rattle.central_effect.specs.Effects.{effect_of}
use Rattle.central_effect.specs.Sound.{CentralSound}
use Rattle.central_codes.specs.Laws.Codes.{parcels-few}
use Rattle.central_decode.specs.Laws.Instruction.{decoded-fits}
use Rattle.central_effect.specs.Laws.Effects.{effect-sound}
use Rattle.central_effect.specs.declared.effect.CentralEffect.{CentralEffect}
use Rattle.central_effect.specs.declared.effect.CentralEffect.TheVariants.{Pass, Stop, Jump, ReturnJump, SetA, SetB, SetX, SetXB}
use Rattle.central_apply.specs.declared.apply.Step.TheVariants as Then
use Rattle.central_apply.specs.State.{State}
use Rattle.central_field.specs.Address.{place_of, relative}
use Rattle.central_apply.specs.Apply.{After, stops_outside, referred, a_set, stored_at, return_jumped, applied}
use Rattle.central_turn.specs.Turn.{ran_at, step_of}
use Rattle.central_apply.specs.Widths.{StateKept}
use Rattle.central_apply.proofs.Widths.{KeptAfter, apply-keeps}
use Rattle.central_field.specs.declared.address.Bounds.{Bounds}
use Rattle.central_apply.specs.declared.apply.Step.{Step}
use Rattle.central_field.specs.declared.address.Absolute.{Absolute}

-- a step keeps the widths
pub step_keeps : (n : ℕ) (s : State) (b : Bounds) (p w place : ℕ) → p < 131072 → StateKept n s → KeptAfter n (step_of s b p w place)
unfolding ran_at
step_keeps n s b p w place h k =
    of-cond (KeptAfter n) (is_fit (decoded w place).code (decoded w place).i)
    (λ e. of-cond (KeptAfter n) (ltb 4 (place + parcels_of (decoded w place).code)) (λ e. k)
    (λ e. apply-keeps n s b _ _ (effect-sound s.registers (decoded w place) k.wide (decoded-fits w place) b.em p h) k))
    (λ e. k)

-- a step either goes on past its instruction, or to a target of 18 bits, or stops
abbrev pub Reached : ℕ → Step → Type 0
Reached next (Then.Next place) = place ≡ next
Reached next (Then.Branch target) = target < 2 ^ 18
Reached next (Then.Stop c) = Unit {0}

abbrev ReachedAfter : ℕ → After → Type 0
ReachedAfter next a = Reached next a.step

refer-reaches : (s : State) (b : Bounds) (i : ℕ) (p : Option Absolute) (next : ℕ) → ReachedAfter next (referred s b i p next)
unfolding referred
refer-reaches s b i (Some a) next = of-cond (ReachedAfter next) (ltb i 6) (λ e. refl) (λ e. refl)
refer-reaches s b i None next =
    of-cond (ReachedAfter next) (stops_outside b) (λ e. tt) (λ e. of-cond (ReachedAfter next) (ltb i 6) (λ e. refl) (λ e. refl))

set-a-reaches : (s : State) (b : Bounds) (i v next : ℕ) → ReachedAfter next (a_set s b i v next)
unfolding a_set
set-a-reaches s b i v next =
    of-cond (ReachedAfter next) (eqb i 0) (λ e. refl) (λ e. refer-reaches _ b i (place_of b (relative v)) next)

-- 010 goes to K + 1, which is at most FL
return-reaches : (f : List ℕ) (b : Bounds) (k w next : ℕ) → b.fl ≤ 131072 → Reached next (return_jumped f b k w).step
unfolding return_jumped place_of
return-reaches f b k w next h =
    of-cond (λ (p : Option Absolute). Reached next (stored_at f b k w p).step) (ltb k b.fl) (λ e. omega (arith, ltb-true k b.fl e)) (λ e. tt)

apply-reaches : (s : State) (b : Bounds) (e : CentralEffect) (next : ℕ) → CentralSound e → b.fl ≤ 131072 → ReachedAfter next (applied s b e next)
unfolding applied
apply-reaches s b Pass next h l = refl
apply-reaches s b (Stop _) next h l = tt
apply-reaches s b (Jump _) next h l = h
apply-reaches s b (ReturnJump k w) next h l = return-reaches s.field b k w next l
apply-reaches s b (SetA i v) next h l = set-a-reaches s b i v next
apply-reaches s b (SetB _ _) next h l = refl
apply-reaches s b (SetX _ _) next h l = refl
apply-reaches s b (SetXB _ _ _ _) next h l = refl

abbrev pub Later : ℕ → Step → Type 0
Later place (Then.Next next) = (place < next) × (next ≤ 4)
Later place (Then.Branch target) = target < 2 ^ 18
Later place (Then.Stop c) = Unit {0}

further : (place next : ℕ) (o : Step) → place < next → next ≤ 4 → Reached next o → Later place o
further place next (Then.Next n) h l e = (omega (arith, e), omega (arith, e))
further place next (Then.Branch t) h l e = e
further place next (Then.Stop c) h l e = tt

-- a step that goes on does so at a later place of the word, or at its end
pub step-reaches : (n : ℕ) (s : State) (b : Bounds) (p w place : ℕ) → p < 131072 → b.fl ≤ 131072 → StateKept n s
    → Later place (step_of s b p w place).step
unfolding ran_at
step-reaches n s b p w place h l k =
    let q = decoded w place in
    let P : After → Type 0 = λ a. Later place a.step in
    of-cond P (is_fit q.code q.i)
    (λ e. of-cond P (ltb 4 (place + parcels_of q.code)) (λ e. tt)
    (λ e.
    further place (place + parcels_of q.code) (applied s b (effect_of s.registers q b.em p) (place + parcels_of q.code)).step
    (omega (arith, parcels-few q.code _ refl))
    (ltb-false 4 (place + parcels_of q.code) e)
    (apply-reaches s b (effect_of s.registers q b.em p) _ (effect-sound s.registers q k.wide (decoded-fits w place) b.em p h) l)))
    (λ e. tt)
