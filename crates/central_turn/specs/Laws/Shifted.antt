-- The loop over a word that is shifted left is the loop over its places.
use Rattle.std.specs.Prelude.{Some, None, ◌≡◌, refl, ℕ, ◌+◌, ◌-◌, ◌*◌, ◌%◌, ◌^◌, ◌≤◌, ◌<◌}
use Rattle.std.proofs.Common.{sym, ap, subst, ◌∙◌, arith}
use Rattle.base_outcome.specs.declared.stop.CentralStop.{CentralStop}
use Rattle.central_decode.specs.Shifted.{shifted_to, decoded_top}
use Rattle.central_decode.specs.Laws.Shifted.{shift-on}
use Rattle.central_field.specs.declared.address.Bounds.{Bounds}
use Rattle.central_apply.specs.State.{State}
use Rattle.central_apply.specs.Apply.{After}
use Rattle.central_apply.specs.Widths.{StateKept}
use Rattle.central_apply.specs.declared.apply.Step.TheVariants as Then
use Rattle.central_apply.specs.declared.apply.Step.{Step}
use Rattle.central_turn.specs.Turn.{ran_at, step_of, Turn, turned, turn_end, go_on, word_run}
use Rattle.central_turn.specs.Remaining.{remaining_from, place_by_remaining, by_remaining, after_by_remaining}
use Rattle.central_turn.specs.Laws.Remaining.{step-at-top}
use Rattle.central_turn.specs.Laws.Turn.{WordGoing, word-going-start, word-going-on, going-out, word-going-end}
use Rattle.central_turn.specs.declared.turn.TurnEnd.{TurnEnd}

-- the step of which by_remaining is known
from_next : (o : Step) (next : ℕ) → by_remaining o ≡ Then.Next next → (n : ℕ) × ((o ≡ Then.Next n) × (remaining_from n ≡ next))
from_next (Then.Next n) next e = (n, (refl, cc))
from_next (Then.Branch t) next e = absurd (let z : ◌≡◌ {A = ℕ} 0 1 = cc in omega arith)
from_next (Then.Stop c) next e = absurd (let z : ◌≡◌ {A = ℕ} 0 1 = cc in omega arith)

from-branch : (o : Step) (t : ℕ) → by_remaining o ≡ Then.Branch t → o ≡ Then.Branch t
from-branch (Then.Next n) t e = absurd (let z : ◌≡◌ {A = ℕ} 0 1 = cc in omega arith)
from-branch (Then.Branch k) t e = e
from-branch (Then.Stop c) t e = e

from-stop : (o : Step) (c : CentralStop) → by_remaining o ≡ Then.Stop c → o ≡ Then.Stop c
from-stop (Then.Next n) c e = absurd (let z : ◌≡◌ {A = ℕ} 0 1 = cc in omega arith)
from-stop (Then.Branch k) c e = e
from-stop (Then.Stop k) c e = e

-- the state of the loop: v is the word at a place, with this many bits remaining
pub record Shifted (b : Bounds) (p w : ℕ) (s₀ s : State) (v remaining : ℕ) : Type 0 where
  pub place : ℕ
  pub total : remaining + 15 * place ≡ 60
  pub top : v ≡ shifted_to w place
  pub going : WordGoing b p w s₀ s place

pub shifted_start : (b : Bounds) (p w : ℕ) (s : State) → StateKept b.fl s → Shifted b p w s s (w * 2 ^ 4 % 2 ^ 64) 60
unfolding shifted_to
shifted_start b p w s k = record { place = 0; total = refl; top = refl; going = word-going-start b p w s k }

-- b is a field in central memory, and p an address in it
module _ (b : Bounds) (p w : ℕ) (room : b.fl ≤ 131072) (inside : p < b.fl)
    (s₀ s : State) (v remaining : ℕ) (g : Shifted b p w s₀ s v remaining) where
  pub shifted_end : remaining ≤ 0 → turned s (turn_end (p + 1) None) ≡ word_run b p w s₀
  shifted_end h = word-going-end b p w room inside s₀ s g.place g.going (omega (arith, g.total))

  module _ (h : 0 < remaining) (a : After) (e : a ≡ after_by_remaining (ran_at s b p (place_by_remaining remaining) (decoded_top v))) where
    early : g.place < 4
    early = omega (arith, g.total)

    stepped : a ≡ after_by_remaining (step_of s b p w g.place)
    stepped =
        let d : place_by_remaining remaining ≡ g.place = omega (arith, g.total) in
        e ∙ ap after_by_remaining (ap (λ (n : ℕ). ran_at s b p n (decoded_top v)) d
        ∙ ap (λ (x : ℕ). ran_at s b p g.place (decoded_top x)) g.top
        ∙ step-at-top s b p w g.place early)

    same-state : (step_of s b p w g.place).state ≡ a.state
    same-state = sym (ap (λ (x : After). x.state) stepped)

    told : (o : Step) → a.step ≡ o → by_remaining (step_of s b p w g.place).step ≡ o
    told o i = sym (ap (λ (x : After). x.step) stepped) ∙ i

    -- where nothing of the word is run after the step
    shifted-out : (o : Step) (t : TurnEnd) → (step_of s b p w g.place).step ≡ o
        → ((x : State) (rest : State → ℕ → Turn) → go_on p rest x o ≡ turned x t) → turned a.state t ≡ word_run b p w s₀
    shifted-out o t i ends =
        subst (λ (x : State). turned x t ≡ word_run b p w s₀) same-state
        (going-out b p w room inside s₀ s g.place g.going early _ refl o i t (ends _))

    pub shifted-branch : (t : ℕ) → a.step ≡ Then.Branch t → turned a.state (turn_end t None) ≡ word_run b p w s₀
    shifted-branch t i = shifted-out (Then.Branch t) (turn_end t None) (from-branch _ t (told _ i)) (λ x rest. refl)

    pub shifted-stop : (c : CentralStop) → a.step ≡ Then.Stop c → turned a.state (turn_end p (Some c)) ≡ word_run b p w s₀
    shifted-stop c i = shifted-out (Then.Stop c) (turn_end p (Some c)) (from-stop _ c (told _ i)) (λ x rest. refl)

    pub shifted-on : (next : ℕ) → a.step ≡ Then.Next next
        → (next < remaining) × Shifted b p w s₀ a.state (v * 2 ^ (remaining - next) % 2 ^ 64) next
    shifted-on next i =
        let n = from_next (step_of s b p w g.place).step next (told _ i) in
        let k = word-going-on b p w room inside s₀ s g.place g.going early (step_of s b p w g.place) refl n.0 n.1.0 in
        let l : remaining + 15 * g.place ≡ 60 = g.total in
        let c : remaining_from n.0 ≡ next = n.1.1 in
        let f : (g.place < n.0) × (n.0 ≤ 4) = k.0 in
        let d : 15 * (n.0 - g.place) ≡ remaining - next = omega arith in
        let u : g.place + (n.0 - g.place) ≡ n.0 = omega arith in (
          omega arith,
          record {
            place = n.0;
            total = omega arith;
            top = ap (λ (x : ℕ). x * 2 ^ (remaining - next) % 2 ^ 64) g.top
                ∙ ap (λ (x : ℕ). shifted_to w g.place * 2 ^ x % 2 ^ 64) (sym d)
                ∙ shift-on w g.place (n.0 - g.place)
                ∙ ap (shifted_to w) u;
            going = subst (λ (x : State). WordGoing b p w s₀ x n.0) same-state k.1;
          },
        )
