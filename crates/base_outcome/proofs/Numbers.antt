-- No two refusals have one number, nor do two verdicts, nor two stops of one processor; a record may hold the numbers of its processor's stops, 0,
-- and no other.
use Rattle.std.specs.Prelude.{true, cond, List, [], ◌∷◌, ◌⊎◌, ◌≡◌, refl, ℕ, zero, suc, ◌+◌, ◌-◌, ◌≤◌, ◌<◌, eqb, get_or, Ok, Err}
use Rattle.std.proofs.Common.{inl, inr, ⊎_elim, sym, ap, ◌∙◌, arith, leb-true, eqb-true}
use Rattle.base_lists.specs.Indexed.{all_below}
use Rattle.base_lists.specs.Laws.Indexed.{all-at}
use Rattle.base_logic.specs.Laws.Tests.{both, one_of}
use Rattle.base_outcome.specs.declared.refusal.Refusal.{Refusal}
use Rattle.base_outcome.specs.declared.refusal.Refusal.TheVariants as Refused
use Rattle.base_outcome.specs.Verdict.{Verdict}
use Rattle.base_outcome.specs.declared.stop.CentralStop.{CentralStop}
use Rattle.base_outcome.specs.declared.stop.CentralStop.TheVariants as Central
use Rattle.base_outcome.specs.declared.stop.PeripheralStop.{PeripheralStop}
use Rattle.base_outcome.specs.declared.stop.PeripheralStop.TheVariants as Peripheral
use Rattle.base_outcome.specs.Numbers.{refusal_number, verdict_number, central_stop_number, central_stop_listed, peripheral_stop_number, peripheral_stop_listed}

-- a number from which the case can be had again is the number of no other case
distinct : {A : Type 0} (number : A → ℕ) (case : ℕ → A) → ((a : A) → case (number a) ≡ a) → (a b : A) → number a ≡ number b → a ≡ b
distinct number case again a b e = sym (again a) ∙ ap case e ∙ again b

-- the numbers from a first one on are those of their cases, by one computed test of them all
numbered : {A : Type 0} (number : A → ℕ) (case : ℕ → A) (first count : ℕ)
    → all_below count (λ k. eqb (number (case (first + k))) (first + k)) ≡ true
    → (n : ℕ) → first ≤ n → n < first + count → number (case n) ≡ n
numbered number case first count all n least most =
    let passed = all-at (λ k. eqb (number (case (first + k))) (first + k)) count all (n - first) (omega arith) in
    let same : first + (n - first) ≡ n = omega arith in eqb-true (number (case n)) n (rw same at passed)

abbrev refusals : List Refusal
refusals =
    Refused.CentralLength
    ∷ Refused.PeripheralLength
    ∷ Refused.CentralWord
    ∷ Refused.PeripheralWord
    ∷ Refused.RecordValue
    ∷ Refused.ListLength
    ∷ Refused.UnlistedJob
    ∷ Refused.TooManyTurns
    ∷ Refused.PackagePastEnd
    ∷ Refused.StrayBits
    ∷ Refused.FieldPastEnd
    ∷ Refused.SharedWord
    ∷ Refused.DeviceWord
    ∷ Refused.PutUnmet
    ∷ Refused.TakeUnmet
    ∷ Refused.UnreadableLine
    ∷ []

abbrev refusal_of : ℕ → Refusal
refusal_of n = get_or refusals (n - 1) Refused.UnreadableLine

refusal-again : (r : Refusal) → refusal_of (refusal_number r) ≡ r
refusal-again Refused.CentralLength = refl
refusal-again Refused.PeripheralLength = refl
refusal-again Refused.CentralWord = refl
refusal-again Refused.PeripheralWord = refl
refusal-again Refused.RecordValue = refl
refusal-again Refused.ListLength = refl
refusal-again Refused.UnlistedJob = refl
refusal-again Refused.TooManyTurns = refl
refusal-again Refused.PackagePastEnd = refl
refusal-again Refused.StrayBits = refl
refusal-again Refused.FieldPastEnd = refl
refusal-again Refused.SharedWord = refl
refusal-again Refused.DeviceWord = refl
refusal-again Refused.PutUnmet = refl
refusal-again Refused.TakeUnmet = refl
refusal-again Refused.UnreadableLine = refl

pub refusals-distinct : (r s : Refusal) → refusal_number r ≡ refusal_number s → r ≡ s
refusals-distinct = distinct refusal_number refusal_of refusal-again

-- 0 is no refusal's number
refusal-not-0 : {B : Type 0} (r : Refusal) → refusal_number r ≡ 0 → B
refusal-not-0 r e =
    let one : refusal_number r ≡ 1 = ap refusal_number (sym (refusal-again r) ∙ ap refusal_of e) in
    let z : ◌≡◌ {A = ℕ} 0 1 = sym e ∙ one in absurd (omega arith)

-- so a number settles the verdict
pub verdicts-distinct : (v w : Verdict) → verdict_number v ≡ verdict_number w → v ≡ w
verdicts-distinct (Ok _) (Ok _) e = refl
verdicts-distinct (Ok _) (Err s) e = refusal-not-0 s (sym e)
verdicts-distinct (Err r) (Ok _) e = refusal-not-0 r e
verdicts-distinct (Err r) (Err s) e = ap Err (refusals-distinct r s e)

abbrev central_stops : List CentralStop
central_stops = Central.Halt ∷ Central.OperandOutside ∷ Central.FetchOutside ∷ Central.UnfitCode ∷ Central.LastParcel ∷ []

abbrev central_stop_of : ℕ → CentralStop
central_stop_of n =
    cond (eqb n 7) Central.InfiniteOperand (cond (eqb n 8) Central.IndefiniteOperand (get_or central_stops (n - 1) Central.Halt))

central-stop-again : (s : CentralStop) → central_stop_of (central_stop_number s) ≡ s
central-stop-again Central.Halt = refl
central-stop-again Central.OperandOutside = refl
central-stop-again Central.FetchOutside = refl
central-stop-again Central.UnfitCode = refl
central-stop-again Central.LastParcel = refl
central-stop-again Central.InfiniteOperand = refl
central-stop-again Central.IndefiniteOperand = refl

pub central-stops-distinct : (s t : CentralStop) → central_stop_number s ≡ central_stop_number t → s ≡ t
central-stops-distinct = distinct central_stop_number central_stop_of central-stop-again

-- the stops listed are the numbers of all stops, and 0
pub central-stop-listed : (s : CentralStop) → central_stop_listed (central_stop_number s) ≡ true
central-stop-listed Central.Halt = refl
central-stop-listed Central.OperandOutside = refl
central-stop-listed Central.FetchOutside = refl
central-stop-listed Central.UnfitCode = refl
central-stop-listed Central.LastParcel = refl
central-stop-listed Central.InfiniteOperand = refl
central-stop-listed Central.IndefiniteOperand = refl

-- by the case that is listed
abbrev CentralStopOrNone : ℕ → Type 0
CentralStopOrNone n = (n ≡ 0) ⊎ ((s : CentralStop) × (central_stop_number s ≡ n))

listed-to-5 : (n : ℕ) → n ≤ 5 → CentralStopOrNone n
unfolding all_below
listed-to-5 zero h = inl refl
listed-to-5 (suc n) h = inr (central_stop_of (suc n), numbered central_stop_number central_stop_of 1 5 refl (suc n) (omega arith) (omega arith))

pub central-listed-stop : (n : ℕ) → central_stop_listed n ≡ true → (n ≡ 0) ⊎ ((s : CentralStop) × (central_stop_number s ≡ n))
central-listed-stop n h =
    ⊎_elim
    (λ e. ⊎_elim (λ l. listed-to-5 n (leb-true n 5 l)) (λ l. inr (Central.InfiniteOperand, sym (eqb-true n 7 l))) (one_of _ _ e))
    (λ e. inr (Central.IndefiniteOperand, sym (eqb-true n 8 e)))
    (one_of _ _ h)

abbrev peripheral_stops : List PeripheralStop
peripheral_stops =
    Peripheral.CentralAddress
    ∷ Peripheral.NoChannel
    ∷ Peripheral.PackagePastEnd
    ∷ Peripheral.StrayBits
    ∷ Peripheral.FieldPastEnd
    ∷ Peripheral.UnfitCode
    ∷ []

abbrev peripheral_stop_of : ℕ → PeripheralStop
peripheral_stop_of n = get_or peripheral_stops (n - 31) Peripheral.UnfitCode

peripheral-stop-again : (s : PeripheralStop) → peripheral_stop_of (peripheral_stop_number s) ≡ s
peripheral-stop-again Peripheral.CentralAddress = refl
peripheral-stop-again Peripheral.NoChannel = refl
peripheral-stop-again Peripheral.PackagePastEnd = refl
peripheral-stop-again Peripheral.StrayBits = refl
peripheral-stop-again Peripheral.FieldPastEnd = refl
peripheral-stop-again Peripheral.UnfitCode = refl

pub peripheral-stops-distinct : (s t : PeripheralStop) → peripheral_stop_number s ≡ peripheral_stop_number t → s ≡ t
peripheral-stops-distinct = distinct peripheral_stop_number peripheral_stop_of peripheral-stop-again

pub peripheral-stop-listed : (s : PeripheralStop) → peripheral_stop_listed (peripheral_stop_number s) ≡ true
peripheral-stop-listed Peripheral.CentralAddress = refl
peripheral-stop-listed Peripheral.NoChannel = refl
peripheral-stop-listed Peripheral.PackagePastEnd = refl
peripheral-stop-listed Peripheral.StrayBits = refl
peripheral-stop-listed Peripheral.FieldPastEnd = refl
peripheral-stop-listed Peripheral.UnfitCode = refl

pub peripheral-listed-stop : (n : ℕ) → peripheral_stop_listed n ≡ true → (n ≡ 0) ⊎ ((s : PeripheralStop) × (peripheral_stop_number s ≡ n))
unfolding all_below
peripheral-listed-stop n h =
    ⊎_elim (λ e. inl (eqb-true n 0 e))
    (λ e.
    let l = both _ _ e in
    let least = leb-true _ n l.0 in
    let most = leb-true n _ l.1 in
    inr (peripheral_stop_of n, numbered peripheral_stop_number peripheral_stop_of 31 6 refl n (omega (arith, least)) (omega (arith, most))))
    (one_of _ _ h)
