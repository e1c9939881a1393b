-- A turn depends on P, the registers, FL, EM and the words of the field alone: it is the same wherever in memory the field begins.
use Rattle.std.specs.Prelude.{Bool, List, ◌≡◌, ltb, Some, None}
use Rattle.std.proofs.Math.Bool.{true, false, cond}
use Rattle.std.proofs.Math.Path.{refl, ap}
use Rattle.std.proofs.Common.{◌∙◌, arith}
use Prim.Native.Nat.{ℕ, zero, suc, ◌+◌, ◌-◌}
use Rattle.central_registers.specs.Registers.{set_a}
use Rattle.central_codes.specs.Codes.{parcels_of}
use Rattle.central_decode.specs.Instruction.{decoded}
use Rattle.central_effect.specs.Effects.{effect_of}
use Rattle.central_effect.specs.declared.effect.CentralEffect.{CentralEffect}
use Rattle.central_effect.specs.declared.effect.CentralEffect.TheVariants.{Pass, Stop, Jump, ReturnJump, SetA, SetB, SetX, SetXB}
use Rattle.central_apply.specs.declared.apply.Step.TheVariants as Then
use Rattle.central_apply.specs.State.{State, state}
use Rattle.central_field.specs.Address.{bounds, place_of}
use Rattle.central_apply.specs.Apply.{After, referred, a_set, stored_at, return_jumped, applied}
use Rattle.central_turn.specs.Turn.{ran_at, step_of, Turn, turned, turn_end, go_on, parcels_run, fetched, turn_of, after_turn, turns_of}
use Rattle.central_apply.specs.declared.apply.Step.{Step}

-- where the word at RA + n stands in the field
pub place-back : (ra n : ℕ) → ra + n - ra ≡ n
place-back ra n = omega arith

module _ (ra ra' fl em : ℕ) where
  refer-anywhere : (s : State) (i v n : ℕ) (t : Bool)
      → referred s (bounds ra fl em) i (cond t (Some (record { 0 = ra + v })) None) n
      ≡ referred s (bounds ra' fl em) i (cond t (Some (record { 0 = ra' + v })) None) n
  unfolding referred
  refer-anywhere s i v n true = rw (place-back ra v, place-back ra' v)
  refer-anywhere s i v n false = refl

  set-a-anywhere : (s : State) (i v n : ℕ) → a_set s (bounds ra fl em) i v n ≡ a_set s (bounds ra' fl em) i v n
  unfolding a_set place_of
  set-a-anywhere s i v n = rw (refer-anywhere (state (set_a s.registers i v) s.field) i v n (ltb v fl))

  store-anywhere : (f : List ℕ) (k w : ℕ) (t : Bool)
      → stored_at f (bounds ra fl em) k w (cond t (Some (record { 0 = ra + k })) None)
      ≡ stored_at f (bounds ra' fl em) k w (cond t (Some (record { 0 = ra' + k })) None)
  store-anywhere f k w true = rw (place-back ra k, place-back ra' k)
  store-anywhere f k w false = refl

  return-anywhere : (f : List ℕ) (k w : ℕ) → return_jumped f (bounds ra fl em) k w ≡ return_jumped f (bounds ra' fl em) k w
  unfolding return_jumped place_of
  return-anywhere f k w = store-anywhere f k w (ltb k fl)

  apply-anywhere : (s : State) (e : CentralEffect) (n : ℕ) → applied s (bounds ra fl em) e n ≡ applied s (bounds ra' fl em) e n
  unfolding applied
  apply-anywhere s Pass n = refl
  apply-anywhere s (Stop _) n = refl
  apply-anywhere s (Jump _) n = refl
  apply-anywhere s (ReturnJump k w) n = rw (return-anywhere s.field k w)
  apply-anywhere s (SetA i v) n = set-a-anywhere s i v n
  apply-anywhere s (SetB _ _) n = refl
  apply-anywhere s (SetX _ _) n = refl
  apply-anywhere s (SetXB _ _ _ _) n = refl

  step-anywhere : (s : State) (p w place : ℕ) → step_of s (bounds ra fl em) p w place ≡ step_of s (bounds ra' fl em) p w place
  unfolding ran_at
  step-anywhere s p w place =
      rw (apply-anywhere s (effect_of s.registers (decoded w place) em p) (place + parcels_of (decoded w place).code))

  go-on-anywhere : (p : ℕ) (rest rest' : State → ℕ → Turn) → ((s : State) (n : ℕ) → rest s n ≡ rest' s n) → (a a' : After) → a ≡ a'
      → go_on p rest a.state a.step ≡ go_on p rest' a'.state a'.step
  go-on-anywhere p rest rest' h a a' e = ap (λ (x : After). go_on p rest x.state x.step) e ∙ by-step a'.state a'.step
    where
      by-step : (s : State) (o : Step) → go_on p rest s o ≡ go_on p rest' s o
      by-step s (Then.Next n) = h s n
      by-step s (Then.Branch t) = refl
      by-step s (Then.Stop c) = refl

  parcels-anywhere : (p w most : ℕ) (s : State) (place : ℕ)
      → parcels_run most (bounds ra fl em) p w s place ≡ parcels_run most (bounds ra' fl em) p w s place
  unfolding parcels_run
  parcels-anywhere p w zero s place = refl
  parcels-anywhere p w (suc most) s place =
      ap (λ (t : Turn). cond (ltb place 4) t (turned s (turn_end (p + 1) None)))
      (go-on-anywhere p _ _ (parcels-anywhere p w most) (step_of s (bounds ra fl em) p w place) (step_of s (bounds ra' fl em) p w place) (step-anywhere s p w place))

  fetch-anywhere : (p : ℕ) (s : State) (t : Bool)
      → fetched (bounds ra fl em) p s (cond t (Some (record { 0 = ra + p })) None)
      ≡ fetched (bounds ra' fl em) p s (cond t (Some (record { 0 = ra' + p })) None)
  fetch-anywhere p s true = rw (place-back ra p, place-back ra' p) (parcels-anywhere p _ 4 s 0)
  fetch-anywhere p s false = refl

  pub turn-anywhere : (p : ℕ) (s : State) → turn_of (bounds ra fl em) p s ≡ turn_of (bounds ra' fl em) p s
  unfolding turn_of place_of
  turn-anywhere p s = fetch-anywhere p s (ltb p fl)

  pub turns-anywhere : (n p : ℕ) (s : State) → turns_of n (bounds ra fl em) p s ≡ turns_of n (bounds ra' fl em) p s
  unfolding turns_of
  turns-anywhere zero p s = refl
  turns-anywhere (suc n) p s =
      let t = turn_of (bounds ra' fl em) p s in
      ap (after_turn (turns_of n (bounds ra fl em))) (turn-anywhere p s) ∙ rw (turns-anywhere n t.end.p t.state)
