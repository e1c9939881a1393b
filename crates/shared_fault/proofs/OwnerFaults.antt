-- Who is named for numbers 9 to 12 is at fault.
use Rattle.std.specs.Prelude.{Bool, true, false, ◌||◌, List, ◌≡◌, refl, ℕ, leb, eqb, length, get_or, Option, Some, None, Err}
use Rattle.std.proofs.Common.{arith}
use borrow.Author.Tests.{leb-true, eqb-false, not-false}
use Rattle.base_logic.specs.Laws.Choice.{of-cond}
use Rattle.base_logic.specs.Laws.Tests.{both}
use Rattle.base_lists.specs.Indexed.{all_below}
use Rattle.base_outcome.specs.declared.refusal.Refusal.TheVariants as Refusal
use Rattle.exchange_jump.specs.Jump.{package_inside, package_clean, field_inside}
use Rattle.shared_schedule.specs.Refusals.{every_job, package_meets_field, packages_meet, fields_meet, jobs_apart, all_apart, schedule_verdict}
use Rattle.shared_schedule.specs.Schedule.{Schedule}
use Rattle.shared_verdict.specs.Owners.{Inside}
use Rattle.shared_fault.specs.Fault.{pair_fault, first_not_apart, first_met, finding_of}
use Rattle.shared_fault.proofs.Findings.{NamesFirst, names-first}
use Rattle.shared_fault.specs.Laws.Order.{schedule-told}
use Rattle.shared_fault.proofs.Search.{First, first-failing}
use Rattle.shared_fault.specs.declared.fault.Fault.{Fault}

module _ (s : Schedule) where
  -- 9
  pub package-past-end-named : schedule_verdict s ≡ Err Refusal.PackagePastEnd
      → NamesFirst s Fault.Job (length s.jobs) (λ i. package_inside s.memory (get_or s.jobs i 0))
  package-past-end-named e = names-first s e refl (schedule-told s _ e).1.1.1.1.1.1

  -- 10: every package may be read
  pub stray-told : schedule_verdict s ≡ Err Refusal.StrayBits
      → (every_job s.jobs (package_inside s.memory) ≡ true) × (every_job s.jobs (package_clean s.memory) ≡ false)
  stray-told e = (schedule-told s _ e).1.1.1.1.1.1

  pub stray-bits-named : schedule_verdict s ≡ Err Refusal.StrayBits
      → NamesFirst s Fault.Job (length s.jobs) (λ i. package_clean s.memory (get_or s.jobs i 0))
  stray-bits-named e = names-first s e refl (stray-told e).1

  -- 11: so it may here
  pub field_told : schedule_verdict s ≡ Err Refusal.FieldPastEnd
      → (every_job s.jobs (package_inside s.memory) ≡ true) × (every_job s.jobs (field_inside s.memory) ≡ false)
  field_told e = let owners = (schedule-told s _ e).1.1.1.1.1.1 in (owners.0, owners.1.1)

  pub field-past-end-named : schedule_verdict s ≡ Err Refusal.FieldPastEnd
      → NamesFirst s Fault.Job (length s.jobs) (λ i. field_inside s.memory (get_or s.jobs i 0))
  field-past-end-named e = names-first s e refl (field_told e).1

-- a test of which neither half holds
neither : (a b : Bool) → (a || b) ≡ false → (a ≡ false) × (b ≡ false)
neither true b e = let z : ◌≡◌ {A = ℕ} 0 1 = cc in absurd (omega arith)
neither false b e = (refl, e)

-- 12: the first job that is not apart from all, and the first that it is not apart from
pub record FirstPair (m jobs : List ℕ) (i j : ℕ) : Type 0 where
  pub one : First (λ k. all_below (length jobs) (jobs_apart m jobs k)) (length jobs) i
  pub other : First (jobs_apart m jobs i) (length jobs) j

module _ (m jobs : List ℕ) where
  pub first-pair : all_apart m jobs ≡ false → FirstPair m jobs (first_not_apart m jobs) (first_met m jobs (first_not_apart m jobs))
  unfolding all_apart
  first-pair e =
      let one = first-failing (λ k. all_below (length jobs) (jobs_apart m jobs k)) (length jobs) e in
      record { one = one; other = first-failing (jobs_apart m jobs (first_not_apart m jobs)) (length jobs) one.fails }

  -- the word in common that a fault names is there; two packages or two fields are of different jobs
  abbrev pub Overlap : Option Fault → Type 0
  Overlap None = ⊥
  Overlap (Some Fault.NoJob) = ⊥
  Overlap (Some (Fault.Job i)) = ⊥
  Overlap (Some (Fault.Stint i)) = ⊥
  Overlap (Some (Fault.PackageField i j)) = package_meets_field m (get_or jobs i 0) (get_or jobs j 0) ≡ true
  Overlap (Some (Fault.Packages i j)) = (i ≡ j → ⊥) × (packages_meet (get_or jobs i 0) (get_or jobs j 0) ≡ true)
  Overlap (Some (Fault.Fields i j)) = (i ≡ j → ⊥) × (fields_meet m (get_or jobs i 0) (get_or jobs j 0) ≡ true)

  pair-overlaps : (i j : ℕ) → jobs_apart m jobs i j ≡ false → Overlap (Some (pair_fault m jobs i j))
  unfolding jobs_apart pair_fault
  pair-overlaps i j e =
      of-cond (λ (f : Fault). Overlap (Some f)) (package_meets_field m (get_or jobs i 0) (get_or jobs j 0)) (λ h. h)
      (λ h. let rest = neither (eqb i j) _ (rw h at e) in
      of-cond (λ (f : Fault). Overlap (Some f)) (packages_meet (get_or jobs i 0) (get_or jobs j 0))
      (λ p. (eqb-false i j rest.0, p))
      (λ p. (eqb-false i j rest.0, not-false _ (rw p at rest.1))))

-- what is named is the first pair, and what they have a word of in common
pub record NamesPair (s : Schedule) : Type 0 where
  pub one : ℕ
  pub other : ℕ
  pub named : (finding_of s).fault ≡ Some (pair_fault s.memory s.jobs one other)
  pub first : FirstPair s.memory s.jobs one other
  pub overlap : Overlap s.memory s.jobs (finding_of s).fault

module _ (s : Schedule) where
  -- every package and field may be read
  pub overlap-told : schedule_verdict s ≡ Err Refusal.SharedWord
      → Inside s.memory s.jobs × (all_apart s.memory s.jobs ≡ false)
  overlap-told e =
      let host = schedule-told s _ e in
      let owners = host.1.1.1.1.1.1 in (
        record {
          packages = owners.0;
          fields = owners.1.1.0;
          at_most = leb-true (length s.memory) 131072 (both (leb 1 (length s.memory)) _ host.0).1;
        },
        owners.1.1.1,
      )

  pub shared-word-named : schedule_verdict s ≡ Err Refusal.SharedWord → NamesPair s
  unfolding finding_of
  shared-word-named e =
      let first = first-pair s.memory s.jobs (overlap-told e).1 in
      record {
        one = first_not_apart s.memory s.jobs;
        other = first_met s.memory s.jobs (first_not_apart s.memory s.jobs);
        named = rw e;
        first = first;
        overlap = rw e (pair-overlaps s.memory s.jobs _ _ first.other.fails);
      }
