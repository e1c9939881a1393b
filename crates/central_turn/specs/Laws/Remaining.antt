-- A step by the entry of its code and the bits that remain is the step at its place.
use Rattle.std.specs.Prelude.{Bool, true, false, cond, List, ◌⊎◌, ◌≡◌, refl, eqb, ltb, Option, Some, None}
use Rattle.std.proofs.Common.{inl, inr, subst, ◌∙◌, arith}
use Rattle.std.proofs.Math.Path.{ap}
use Prim.Native.Nat.{ℕ, ◌+◌, ◌-◌, ◌/◌, ◌%◌, ◌^◌, ◌≤◌, ◌<◌}
use borrow.Author.Tests.{lt-ltb, le-ltb}
use Rattle.word_arithmetic.specs.Bits.{bits}
use Rattle.base_logic.specs.Laws.Choice.{le-or-lt}
use Rattle.base_outcome.specs.declared.stop.CentralStop.TheVariants as Because
use Rattle.central_codes.specs.Codes.{is_long, parcels_of}
use Rattle.central_codes.specs.Table.{entry_of, entry_at}
use Rattle.central_codes.specs.Laws.Table.{entry-unfit, entry-fit}
use Rattle.central_decode.specs.Instruction.{decoded}
use Rattle.central_decode.specs.Shifted.{shifted_to, decoded_top}
use Rattle.central_decode.specs.Laws.Shifted.{with_constant, top-decoded, top-whole}
use Rattle.central_decode.specs.declared.instruction.Instruction.{Instruction}
use Rattle.central_effect.specs.Effects.{effect_of}
use Rattle.central_effect.specs.Laws.Constant.{effect-short}
use Rattle.central_effect.specs.declared.effect.CentralEffect.{CentralEffect}
use Rattle.central_effect.specs.declared.effect.CentralEffect.TheVariants.{Pass, Stop, Jump, ReturnJump, SetA, SetB, SetX, SetXB}
use Rattle.central_field.specs.Address.{place_of, relative}
use Rattle.central_field.specs.declared.address.Bounds.{Bounds}
use Rattle.central_apply.specs.State.{State}
use Rattle.central_apply.specs.Apply.{After, after, stops_outside, referred, a_set, stored_at, return_jumped, applied}
use Rattle.central_turn.specs.Turn.{stopped_by, ran_at, step_of}
use Rattle.central_turn.specs.Remaining.{remaining_from, place_by_remaining, by_remaining, after_by_remaining}
use Rattle.central_field.specs.declared.address.Absolute.{Absolute}

-- applying an effect hands on the number that it is given
cond-remaining : (t : Bool) (x y : After) → cond t (after_by_remaining x) (after_by_remaining y) ≡ after_by_remaining (cond t x y)
cond-remaining true x y = refl
cond-remaining false x y = refl

refer-remaining : (s : State) (b : Bounds) (i : ℕ) (p : Option Absolute) (n : ℕ) → referred s b i p (remaining_from n) ≡ after_by_remaining (referred s b i p n)
unfolding referred
refer-remaining s b i (Some a) n = cond-remaining (ltb i 6) _ _
refer-remaining s b i None n =
    ap (cond (stops_outside b) _) (cond-remaining (ltb i 6) _ _) ∙ cond-remaining (stops_outside b) _ _

set-a-remaining : (s : State) (b : Bounds) (i v n : ℕ) → a_set s b i v (remaining_from n) ≡ after_by_remaining (a_set s b i v n)
unfolding a_set
set-a-remaining s b i v n =
    ap (cond (eqb i 0) _) (refer-remaining _ b i (place_of b (relative v)) n) ∙ cond-remaining (eqb i 0) _ _

-- 010 does not go on
return-remaining : (f : List ℕ) (b : Bounds) (k w : ℕ) → (return_jumped f b k w).step ≡ by_remaining (return_jumped f b k w).step
unfolding return_jumped
return-remaining f b k w = by_place (place_of b (relative k))
  where
    by_place : (p : Option Absolute) → (stored_at f b k w p).step ≡ by_remaining (stored_at f b k w p).step
    by_place (Some a) = refl
    by_place None = refl

apply-remaining : (s : State) (b : Bounds) (e : CentralEffect) (n : ℕ) → applied s b e (remaining_from n) ≡ after_by_remaining (applied s b e n)
unfolding applied
apply-remaining s b Pass n = refl
apply-remaining s b (Stop _) n = refl
apply-remaining s b (Jump _) n = refl
apply-remaining s b (ReturnJump k w) n = ap (after s.registers (return_jumped s.field b k w).field) (return-remaining s.field b k w)
apply-remaining s b (SetA i v) n = set-a-remaining s b i v n
apply-remaining s b (SetB _ _) n = refl
apply-remaining s b (SetX _ _) n = refl
apply-remaining s b (SetXB _ _ _ _) n = refl

-- the entry of the instruction at the top of v
pub entry-at-top : (e v : ℕ) → e ≡ entry_at (v / 2 ^ 55) → e ≡ entry_of (decoded_top v).code (decoded_top v).i
unfolding decoded_top
entry-at-top e v is =
    let c : v / 2 ^ 55 / 8 ≡ v / 2 ^ 58 = omega arith in
    is ∙ ap (λ (code : ℕ). entry_of code (v / 2 ^ 55 % 8)) c

-- a step, by the entry of its code
module _ (s : State) (b : Bounds) (p remaining e : ℕ) (q : Instruction)
    (h : remaining ≤ 60) (m : remaining % 15 ≡ 0) (is : e ≡ entry_of q.code q.i) where
  pub ran-unfit : 64 ≤ e → stopped_by s Because.UnfitCode ≡ after_by_remaining (ran_at s b p (place_by_remaining remaining) q)
  unfolding ran_at
  ran-unfit l = rw (entry-unfit e q.code q.i is l)

  pub ran-cut : e < 64 → remaining < e → stopped_by s Because.LastParcel ≡ after_by_remaining (ran_at s b p (place_by_remaining remaining) q)
  unfolding ran_at
  ran-cut l c =
      let f = entry-fit e q.code q.i is l in
      let d : 4 < place_by_remaining remaining + parcels_of q.code = omega (arith, f.1) in
      rw (f.0, lt-ltb 4 (place_by_remaining remaining + parcels_of q.code) d)

  pub ran-whole : (f : CentralEffect) (a : After) → e ≤ remaining → f ≡ effect_of s.registers q b.em p → a ≡ applied s b f (remaining - e)
      → a ≡ after_by_remaining (ran_at s b p (place_by_remaining remaining) q)
  unfolding ran_at
  ran-whole f a c ef ea =
      let g = entry-fit e q.code q.i is (omega arith) in
      let n : ℕ = place_by_remaining remaining + parcels_of q.code in
      let d : n ≤ 4 = omega (arith, g.1) in
      let k : remaining - e ≡ remaining_from n = omega (arith, g.1) in
      rw (g.0, le-ltb 4 (place_by_remaining remaining + parcels_of q.code) d, ← ef) (ea ∙ ap (applied s b f) k ∙ apply-remaining s b f n)

-- at the last place no instruction with a K is run
ran-last : (s : State) (b : Bounds) (p n : ℕ) (q : Instruction) → ran_at s b p 3 (with_constant q n) ≡ ran_at s b p 3 q
unfolding ran_at parcels_of
ran-last s b p n q = by_length (is_long q.code) refl
  where
    by_length : (t : Bool) → is_long q.code ≡ t → ran_at s b p 3 (with_constant q n) ≡ ran_at s b p 3 q
    by_length true e = rw e
    by_length false e = rw (effect-short s.registers q n b.em p e)

-- the instruction at the top is the one at its place
pub step-at-top : (s : State) (b : Bounds) (p w place : ℕ) → place < 4
    → ran_at s b p place (decoded_top (shifted_to w place)) ≡ step_of s b p w place
step-at-top s b p w place h = split (le-or-lt 3 place)
  where
    last : 3 ≡ place → ran_at s b p place (decoded_top (shifted_to w place)) ≡ step_of s b p w place
    last e =
        let q : Instruction = decoded w place in
        let n : ℕ = bits (shifted_to w place) 34 18 in
        ap (ran_at s b p place) (top-decoded w place h)
        ∙ subst (λ (x : ℕ). ran_at s b p x (with_constant q n) ≡ ran_at s b p x q) e (ran-last s b p n q)

    split : (3 ≤ place) ⊎ (place < 3) → ran_at s b p place (decoded_top (shifted_to w place)) ≡ step_of s b p w place
    split (inl l) = last (omega arith)
    split (inr l) = ap (ran_at s b p place) (top-whole w place l)
