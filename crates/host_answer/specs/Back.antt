-- What every call hands back: the number of its refusal, or 0, and the slices that were lent.
use Rattle.std.specs.Prelude.{List, [], ℕ, Result, Ok, Err}
use Rattle.base_outcome.specs.Numbers.{verdict_number}
use Rattle.base_outcome.specs.declared.refusal.Refusal.{Refusal}
use Rattle.base_outcome.specs.declared.refusal.Refusal.TheVariants as Refused
use Rattle.base_outcome.specs.Verdict.{Verdict}
use Rattle.base_outcome.specs.Order.{or_else}

-- the number, and the record's slice
pub record Back : Type 0 where
  pub number : ℕ
  pub lent : List ℕ

abbrev pub back : ℕ → List ℕ → Back
back n lent = record { number = n; lent = lent }

-- the slice after the call: the new record's numbers, or, "After a refusal the state comes back equal", those given
abbrev pub kept : Verdict → List ℕ → List ℕ → List ℕ
kept (Ok _) numbers given = numbers
kept (Err r) numbers given = given

abbrev pub back_by : Verdict → List ℕ → List ℕ → Back
back_by v numbers given = back (verdict_number v) (kept v numbers given)

-- the same of an answer that has the new record where the call is carried out
abbrev pub back_of : {A : Type 0} → (A → List ℕ) → Result A Refusal → List ℕ → Back
back_of numbers (Ok after) given = back_by (Ok tt) (numbers after) given
back_of numbers (Err r) given = back_by (Err r) [] given

-- a result slice that is too short is number 6, after the verdict by 1 to 5
abbrev pub short_number : Verdict → ℕ
short_number v = verdict_number (or_else v (Err Refused.ListLength))
