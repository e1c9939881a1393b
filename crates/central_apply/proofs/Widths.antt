-- Effects keep the widths of registers and field, the field's length, and B0.
use Rattle.std.specs.Prelude.{List, ℕ, ◌^◌, ◌<◌, eqb, ltb, set, Option, Some, None}
use Rattle.std.proofs.Common.{◌∙◌, arith, lit<, length-set}
use Rattle.base_logic.specs.Laws.Choice.{of-cond}
use Rattle.central_registers.specs.Registers.{set_a}
use Rattle.central_registers.specs.Widths.{Wide}
use Rattle.central_effect.specs.Sound.{CentralSound}
use Rattle.central_registers.specs.Laws.Widths.{set-has, short-set, x-set, b-set}
use Rattle.central_effect.specs.declared.effect.CentralEffect.{CentralEffect}
use Rattle.central_effect.specs.declared.effect.CentralEffect.TheVariants.{Pass, Stop, Jump, ReturnJump, SetA, SetB, SetX, SetXB}
use Rattle.central_apply.specs.State.{State, state}
use Rattle.central_field.specs.Address.{place_of, relative}
use Rattle.central_apply.specs.Apply.{After, stops_outside, referred, a_set, stored_at, return_jumped, applied}
use Rattle.central_apply.specs.Widths.{Words, StateKept}
use Rattle.central_field.specs.declared.address.Bounds.{Bounds}
use Rattle.central_field.specs.declared.address.Absolute.{Absolute}

word_set : (f : List ℕ) (i v : ℕ) → v < 2 ^ 60 → Words f → Words (set f i v)
word_set f i v h w = record { word = λ j. set-has (λ (x : ℕ). x < 2 ^ 60) f i j v h (w.word j) }

-- other registers, another word of the field
module _ {n : ℕ} {s : State} (k : StateKept n s) where
  registers-kept : {r : List ℕ} → Wide r → StateKept n (state r s.field)
  registers-kept w = record { wide = w; words = k.words; size = k.size }

  field-kept : (i v : ℕ) → v < 2 ^ 60 → StateKept n (state s.registers (set s.field i v))
  field-kept i v h =
      record { wide = k.wide; words = word_set s.field i v h k.words; size = length-set s.field i v ∙ k.size }

abbrev pub KeptAfter : ℕ → After → Type 0
KeptAfter n a = StateKept n a.state

refer-keeps : (n : ℕ) (s : State) (b : Bounds) (i : ℕ) (p : Option Absolute) (next : ℕ) → StateKept n s → KeptAfter n (referred s b i p next)
unfolding referred
refer-keeps n s b i (Some a) next k =
    of-cond (KeptAfter n) (ltb i 6) (λ e. registers-kept k (x-set s.registers i _ (k.words.word _) k.wide))
    (λ e. field-kept k _ _ (k.wide.long _))
refer-keeps n s b i None next k =
    of-cond (KeptAfter n) (stops_outside b) (λ e. k)
    (λ e. of-cond (KeptAfter n) (ltb i 6) (λ e. registers-kept k (x-set s.registers i 0 (lit< tt) k.wide)) (λ e. k))

set-a-keeps : (n : ℕ) (s : State) (b : Bounds) (i v next : ℕ) → i < 8 → v < 2 ^ 18 → StateKept n s → KeptAfter n (a_set s b i v next)
unfolding a_set
set-a-keeps n s b i v next l h k =
    let set-kept : StateKept n (state (set_a s.registers i v) s.field)
    = registers-kept k (short-set s.registers i v (λ e. omega arith) h k.wide) in
    of-cond (KeptAfter n) (eqb i 0) (λ e. set-kept) (λ e. refer-keeps n _ b i (place_of b (relative v)) next set-kept)

stored-keeps : (n : ℕ) (s : State) (b : Bounds) (k w : ℕ) (p : Option Absolute) → w < 2 ^ 60 → StateKept n s
    → StateKept n (state s.registers (stored_at s.field b k w p).field)
stored-keeps n s b k w (Some a) h kept = field-kept kept _ w h
stored-keeps n s b k w None h kept = kept

pub apply-keeps : (n : ℕ) (s : State) (b : Bounds) (e : CentralEffect) (next : ℕ) → CentralSound e → StateKept n s → KeptAfter n (applied s b e next)
unfolding applied return_jumped
apply-keeps n s b Pass next h k = k
apply-keeps n s b (Stop _) next h k = k
apply-keeps n s b (Jump _) next h k = k
apply-keeps n s b (ReturnJump t w) next h k = stored-keeps n s b t w (place_of b (relative t)) h.1 k
apply-keeps n s b (SetA i v) next h k = set-a-keeps n s b i v next h.0 h.1 k
apply-keeps n s b (SetB i v) next h k = registers-kept k (b-set s.registers i v h.1 k.wide)
apply-keeps n s b (SetX i v) next h k = registers-kept k (x-set s.registers i v h.1 k.wide)
apply-keeps n s b (SetXB i v j e) next h k =
    registers-kept k (b-set _ j e h.1.1 (x-set s.registers i v h.0.1 k.wide))
