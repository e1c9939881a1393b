-- `shared_fault::finding::find_fault` meets its contract.
use mathlib.Core.Path.{◌≡◌, refl, sym, ap, ◌∙◌}
use Prim.Native.Nat.{ℕ}
use Rattle.base_outcome.specs.declared.refusal.Refusal.{Refusal}
use Rattle.std.specs.Prelude.{Some, None}
use Rattle.single_calls.specs.Turns.{most_turns}
use Rattle.shared_schedule.specs.Schedule.{Schedule}
use Rattle.shared_fault.specs.Fault.{fault_by}
use Rattle.shared_fault.proofs.Findings.{refused_as, refused-finding, accepted-names-nobody}
use Rattle.shared_fault.proofs.OwnerFaults.{stray-told, field_told, overlap-told}
use Rattle.shared_fault.proofs.Search.{first-below-suc}
use Rattle.shared_fault.specs.declared.fault.Fault.TheVariants as Fault
use Rattle.shared_fault.proofs.finding.find_fault.Goals as goal

-- a refusal that is none of the arms with a fault
names-nobody : (r : Refusal) (s : Schedule)
    → (r ≡ Refusal.ListLength → ⊥) → (r ≡ Refusal.UnlistedJob → ⊥) → (r ≡ Refusal.TooManyTurns → ⊥) → (r ≡ Refusal.PackagePastEnd → ⊥)
    → (r ≡ Refusal.StrayBits → ⊥) → (r ≡ Refusal.FieldPastEnd → ⊥) → (r ≡ Refusal.SharedWord → ⊥) → None ≡ fault_by r s
names-nobody Refusal.CentralLength s a b d e f g h = refl
names-nobody Refusal.PeripheralLength s a b d e f g h = refl
names-nobody Refusal.CentralWord s a b d e f g h = refl
names-nobody Refusal.PeripheralWord s a b d e f g h = refl
names-nobody Refusal.RecordValue s a b d e f g h = refl
names-nobody Refusal.ListLength s a b d e f g h = absurd (a refl)
names-nobody Refusal.UnlistedJob s a b d e f g h = absurd (b refl)
names-nobody Refusal.TooManyTurns s a b d e f g h = absurd (d refl)
names-nobody Refusal.PackagePastEnd s a b d e f g h = absurd (e refl)
names-nobody Refusal.StrayBits s a b d e f g h = absurd (f refl)
names-nobody Refusal.FieldPastEnd s a b d e f g h = absurd (g refl)
names-nobody Refusal.SharedWord s a b d e f g h = absurd (h refl)
names-nobody Refusal.DeviceWord s a b d e f g h = refl
names-nobody Refusal.PutUnmet s a b d e f g h = refl
names-nobody Refusal.TakeUnmet s a b d e f g h = refl
names-nobody Refusal.UnreadableLine s a b d e f g h = refl

pub first_stray-requires : goal.first_stray-requires
first_stray-requires c =
    (stray-told _
    (refused_as _ c.schedule_verdict.ensures c.in-Err.is c.in-StrayBits.is)).0

pub first_field_past_end-requires : goal.first_field_past_end-requires
first_field_past_end-requires c =
    (field_told _
    (refused_as _ c.schedule_verdict.ensures c.in-Err.is c.in-FieldPastEnd.is)).0

pub invariant_of-overlap_fault : goal.invariant_of-overlap_fault
invariant_of-overlap_fault c =
    record { inside = (overlap-told _ (refused_as _ c.schedule_verdict.ensures c.in-Err.is c.in-SharedWord.is)).0 }

pub overlap_fault-requires : goal.overlap_fault-requires
overlap_fault-requires c = (overlap-told _ (refused_as _ c.schedule_verdict.ensures c.in-Err.is c.in-SharedWord.is)).1

pub returns-in_default : goal.returns-in_default
returns-in_default c = sym (accepted-names-nobody _ (sym c.schedule_verdict.ensures ∙ c.in_default.is))

pub returns-in-ListLength : goal.returns-in-ListLength
returns-in-ListLength c =
    refused-finding _ c.schedule_verdict.ensures c.in-Err.is c.in-ListLength.is
    c.length_fault-fault.ensures

pub returns-in-UnlistedJob : goal.returns-in-UnlistedJob
returns-in-UnlistedJob c =
    refused-finding _ c.schedule_verdict.ensures c.in-Err.is c.in-UnlistedJob.is
    (ap (λ (k : ℕ). Some (Fault.Stint k)) c.first_not_below.ensures)

pub returns-in-TooManyTurns : goal.returns-in-TooManyTurns
returns-in-TooManyTurns c =
    refused-finding _ c.schedule_verdict.ensures c.in-Err.is c.in-TooManyTurns.is
    (ap (λ (k : ℕ). Some (Fault.Stint k)) (c.first_not_below-in-TooManyTurns.ensures ∙ first-below-suc most_turns c.args.ts.now))

pub returns-in-PackagePastEnd : goal.returns-in-PackagePastEnd
returns-in-PackagePastEnd c =
    refused-finding _ c.schedule_verdict.ensures c.in-Err.is c.in-PackagePastEnd.is
    (ap (λ (k : ℕ). Some (Fault.Job k)) c.first_past_end.ensures)

pub returns-in-StrayBits : goal.returns-in-StrayBits
returns-in-StrayBits c =
    refused-finding _ c.schedule_verdict.ensures c.in-Err.is c.in-StrayBits.is
    (ap (λ (k : ℕ). Some (Fault.Job k)) c.first_stray.ensures)

pub returns-in-FieldPastEnd : goal.returns-in-FieldPastEnd
returns-in-FieldPastEnd c =
    refused-finding _ c.schedule_verdict.ensures c.in-Err.is c.in-FieldPastEnd.is
    (ap (λ (k : ℕ). Some (Fault.Job k)) c.first_field_past_end.ensures)

pub returns-in-SharedWord : goal.returns-in-SharedWord
returns-in-SharedWord c =
    refused-finding _ c.schedule_verdict.ensures c.in-Err.is c.in-SharedWord.is
    (ap Some c.overlap_fault.ensures)

pub returns-in_default-refusal : goal.returns-in_default-refusal
returns-in_default-refusal c =
    let no = c.in_default-refusal in
    refused-finding _ c.schedule_verdict.ensures c.in-Err.is refl
    (names-nobody _ _ no.not-ListLength no.not-UnlistedJob no.not-TooManyTurns no.not-PackagePastEnd no.not-StrayBits no.not-FieldPastEnd no.not-SharedWord)
