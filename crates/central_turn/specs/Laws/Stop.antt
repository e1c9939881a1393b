-- A stop that may be none, and its number.
use Rattle.std.specs.Prelude.{true, false, ◌≡◌, refl, Option, Some, None, is_some, is_none, eqb}
use Rattle.base_outcome.specs.declared.stop.CentralStop.{CentralStop}
use Rattle.base_outcome.specs.declared.stop.CentralStop.TheVariants.{Halt, OperandOutside, FetchOutside, UnfitCode, LastParcel, InfiniteOperand, IndefiniteOperand}
use Rattle.central_turn.specs.Turn.{stop_number}

module _ (o : Option CentralStop) where
  pub none-is : is_none o ≡ true → is_some o ≡ false
  none-is e = by-stop o e
    where
      by-stop : (x : Option CentralStop) → is_none x ≡ true → is_some x ≡ false
      by-stop None e = refl
      by-stop (Some c) e = absurd cc

  pub is-none : is_none o ≡ true → o ≡ None
  is-none e = by-stop o e
    where
      by-stop : (x : Option CentralStop) → is_none x ≡ true → x ≡ None
      by-stop None e = refl
      by-stop (Some c) e = absurd cc

  pub is-not-none : is_none o ≡ false → o ≡ None → ⊥
  is-not-none e h = cc (rw h at e)

-- a record that goes on holds 0
pub number-of-none : (o : Option CentralStop) → eqb (stop_number o) 0 ≡ is_none o
number-of-none None = refl
number-of-none (Some Halt) = refl
number-of-none (Some OperandOutside) = refl
number-of-none (Some FetchOutside) = refl
number-of-none (Some UnfitCode) = refl
number-of-none (Some LastParcel) = refl
number-of-none (Some InfiniteOperand) = refl
number-of-none (Some IndefiniteOperand) = refl
