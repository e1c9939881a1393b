-- What an effect does to registers and field, and what follows it.
use Rattle.std.specs.Prelude.{Bool, cond, List, ℕ, ◌+◌, eqb, ltb, get_or, set, Option, Some, None}
use Rattle.base_outcome.specs.declared.stop.CentralStop.TheVariants as Because
use Rattle.central_registers.specs.Registers.{x_of, set_a, set_b, set_x}
use Rattle.central_effect.specs.Floating.{em_set}
use Rattle.central_effect.specs.declared.effect.CentralEffect.{CentralEffect}
use Rattle.central_effect.specs.declared.effect.CentralEffect.TheVariants.{Pass, Stop, Jump, ReturnJump, SetA, SetB, SetX, SetXB}
use Rattle.central_apply.specs.declared.apply.Step.TheVariants as Then
use Rattle.central_apply.specs.State.{State, state}
use Rattle.central_field.specs.Address.{place_of, relative, index_of}
use Rattle.central_field.specs.declared.address.Bounds.{Bounds}
use Rattle.central_apply.specs.declared.apply.Step.{Step}
use Rattle.central_field.specs.declared.address.Absolute.{Absolute}

-- the state after an effect, and the step that follows
pub record After : Type 0 where
  pub state : State
  pub step : Step

abbrev pub after : List ℕ → List ℕ → Step → After
after r f s = record { state = state r f; step = s }

-- EM bit 010000, which is bit 12
abbrev pub stops_outside : Bounds → Bool
stops_outside b = em_set b.em 12

-- "Every setting of A1 to A5 reads into X1 to X5, and of A6, A7 stores X6, X7 ... Outside the field without the EM bit, a read gives zero
-- and a store is dropped; with it, X and memory keep their values."
unfoldable pub referred : State → Bounds → ℕ → Option Absolute → ℕ → After
referred s b i (Some a) n =
    cond (ltb i 6) (after (set_x s.registers i (get_or s.field (index_of b a) 0)) s.field (Then.Next n))
    (after s.registers (set s.field (index_of b a) (x_of s.registers i)) (Then.Next n))
-- Stop 2: "operand outside the field with EM bit 010000".
referred s b i None n =
    cond (stops_outside b) (after s.registers s.field (Then.Stop Because.OperandOutside))
    (cond (ltb i 6) (after (set_x s.registers i 0) s.field (Then.Next n)) (after s.registers s.field (Then.Next n)))

-- "A is set in all cases." A0 refers to no memory.
unfoldable pub a_set : State → Bounds → ℕ → ℕ → ℕ → After
a_set s b i v n =
    cond (eqb i 0) (after (set_a s.registers i v) s.field (Then.Next n))
    (referred (state (set_a s.registers i v) s.field) b i (place_of b (relative v)) n)

-- the field after 010, and the step that follows
pub record Stored : Type 0 where
  pub field : List ℕ
  pub step : Step

abbrev pub stored : List ℕ → Step → Stored
stored f s = record { field = f; step = s }

abbrev pub stored_at : List ℕ → Bounds → ℕ → ℕ → Option Absolute → Stored
stored_at f b k w (Some a) = stored (set f (index_of b a) w) (Then.Branch (k + 1))
stored_at f b k w None = stored f (Then.Stop Because.FetchOutside)

-- the word w at K, "then P is K + 1"; "the target of 010, outside the field" stops
unfoldable pub return_jumped : List ℕ → Bounds → ℕ → ℕ → Stored
return_jumped f b k w = stored_at f b k w (place_of b (relative k))

-- n says where the word goes on after the instruction, and is handed on as it is: here the place, in the code the bits that remain
unfoldable pub applied : State → Bounds → CentralEffect → ℕ → After
applied s b Pass n = after s.registers s.field (Then.Next n)
applied s b (Stop c) n = after s.registers s.field (Then.Stop c)
applied s b (Jump p) n = after s.registers s.field (Then.Branch p)
applied s b (ReturnJump k w) n = after s.registers (return_jumped s.field b k w).field (return_jumped s.field b k w).step
applied s b (SetA i v) n = a_set s b i v n
applied s b (SetB i v) n = after (set_b s.registers i v) s.field (Then.Next n)
applied s b (SetX i v) n = after (set_x s.registers i v) s.field (Then.Next n)
applied s b (SetXB i v j e) n = after (set_b (set_x s.registers i v) j e) s.field (Then.Next n)
