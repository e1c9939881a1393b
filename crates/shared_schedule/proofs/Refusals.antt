-- What an accepted schedule is.
use Rattle.std.specs.Prelude.{Bool, true, false, not, ◌&&◌, ◌||◌, List, ◌≡◌, ℕ, ◌+◌, ◌≤◌, ◌<◌, ltb, leb, eqb, length, get_or, Ok}
use Rattle.std.proofs.Common.{ltb-true, leb-true, eqb-true, ne_eqb}
use Rattle.std.proofs.lemmas.Bool.{not-true}
use Rattle.exchange_jump.specs.Jump.{record_at, package_inside, package_clean, field_inside}
use Rattle.base_logic.specs.Laws.Tests.{both}
use Rattle.base_lists.specs.Laws.Indexed.{all-at}
use Rattle.exchange_jump.specs.Accepted.{HostAccepted, PackageAccepted}
use Rattle.base_outcome.specs.Laws.Verdict.{by-test}
use Rattle.exchange_jump.specs.Laws.Verdicts.{host-accepted}
use Rattle.base_lists.specs.Parts.{part}
use Rattle.exchange_package.specs.Package.{has_stray}
use Rattle.central_record.specs.Record.{host_verdict}
use Rattle.central_record.specs.declared.record.Central.{Central}
use Rattle.base_outcome.specs.Laws.Verdict.{both-accept}
use Rattle.single_calls.specs.Turns.{most_turns}
use Rattle.shared_limits.specs.Laws.Limits.{jobs-fit}
use Rattle.shared_limits.specs.Limits.{most_jobs, most_stints, jobs_fit}
use Rattle.shared_schedule.specs.Isolation.{ScheduleAccepted}
use Rattle.shared_schedule.specs.Refusals.{lists_fit, jobs_listed, turns_fit, lists_verdict, every_job, package_meets_field, packages_meet, fields_meet, jobs_apart, all_apart, owners_verdict, schedule_verdict}
use Rattle.shared_schedule.specs.Ready.{Ready, Listed}
use Rattle.shared_schedule.specs.Schedule.{Schedule}

-- number 6 does not refuse
pub record ListsFit (jobs js ts : List ℕ) : Type 0 where
  pub some-job : 1 ≤ length jobs
  pub most-jobs : length jobs ≤ most_jobs
  pub most-stints : length js ≤ most_stints
  pub even : length js ≡ length ts

pub lists-fit : (jobs js ts : List ℕ) → lists_fit jobs js ts ≡ true → ListsFit jobs js ts
unfolding lists_fit
lists-fit jobs js ts e =
    let b₂ = both (jobs_fit (length jobs) && leb (length js) most_stints) (eqb (length js) (length ts)) e in
    let b₁ = both (jobs_fit (length jobs)) (leb (length js) most_stints) b₂.0 in
    let few = jobs-fit (length jobs) b₁.0 in
    record {
      some-job = few.0;
      most-jobs = few.1;
      most-stints = leb-true (length js) most_stints b₁.1;
      even = eqb-true (length js) (length ts) b₂.1;
    }

-- numbers 6 to 8 do not refuse
pub record ListsAccepted (jobs js ts : List ℕ) : Type 0 where
  pub fit : ListsFit jobs js ts
  pub listed : Listed jobs js
  pub turns : (k : ℕ) → k < length ts → get_or ts k 0 ≤ most_turns

pub lists-accepted : (jobs js ts : List ℕ) → lists_verdict jobs js ts ≡ Ok tt → ListsAccepted jobs js ts
unfolding lists_verdict jobs_listed turns_fit
lists-accepted jobs js ts e =
    let t₆ = by-test (lists_fit jobs js ts) _ _ e in
    let t₇ = by-test (jobs_listed jobs js) _ _ t₆.1 in
    let t₈ = by-test (turns_fit ts) _ _ t₇.1 in
    record {
      fit = lists-fit jobs js ts t₆.0;
      listed = λ k h. ltb-true (get_or js k 0) (length jobs) (all-at (λ i. ltb (get_or js i 0) (length jobs)) (length js) t₇.0 k h);
      turns = λ k h. leb-true (get_or ts k 0) most_turns (all-at (λ i. leb (get_or ts i 0) most_turns) (length ts) t₈.0 k h);
    }

-- numbers 9 to 12 do not refuse
pub record OwnersAccepted (m jobs : List ℕ) : Type 0 where
  pub owner : (i : ℕ) → i < length jobs → PackageAccepted m (get_or jobs i 0)
  pub apart : (i j : ℕ) → i < length jobs → j < length jobs → jobs_apart m jobs i j ≡ true

every : (jobs : List ℕ) (test : ℕ → Bool) → every_job jobs test ≡ true → (i : ℕ) → i < length jobs → test (get_or jobs i 0) ≡ true
every jobs test e = all-at (λ i. test (get_or jobs i 0)) (length jobs) e

pub owners-accepted : (m jobs : List ℕ) → owners_verdict m jobs ≡ Ok tt → OwnersAccepted m jobs
unfolding owners_verdict package_inside package_clean field_inside all_apart
owners-accepted m jobs e =
    let t₉ = by-test (every_job jobs (package_inside m)) _ _ e in
    let t₁₀ = by-test (every_job jobs (package_clean m)) _ _ t₉.1 in
    let t₁₁ = by-test (every_job jobs (field_inside m)) _ _ t₁₀.1 in
    let t₁₂ = by-test (all_apart m jobs) _ _ t₁₁.1 in
    record {
      owner = λ i li. let at = get_or jobs i 0 in record {
        inside = leb-true (at + 16) (length m) (every jobs (package_inside m) t₉.0 i li);
        no_stray = not-true (has_stray (part m at 16)) (every jobs (package_clean m) t₁₀.0 i li);
        field = leb-true ((record_at m at).ra + (record_at m at).fl) (length m) (every jobs (field_inside m) t₁₁.0 i li);
      };
      apart = λ i j li lj. all-at (jobs_apart m jobs i) (length jobs) (all-at _ (length jobs) t₁₂.0 i li) j lj;
    }

-- what the test of two jobs says
module _ (m jobs : List ℕ) (i j : ℕ) (h : jobs_apart m jobs i j ≡ true) where
  halves : (not (package_meets_field m (get_or jobs i 0) (get_or jobs j 0)) ≡ true)
      × ((eqb i j || (not (packages_meet (get_or jobs i 0) (get_or jobs j 0)) && not (fields_meet m (get_or jobs i 0) (get_or jobs j 0)))) ≡ true)
  unfolding jobs_apart
  halves = both _ _ h

  pub package-field-apart : package_meets_field m (get_or jobs i 0) (get_or jobs j 0) ≡ false
  package-field-apart = not-true _ halves.0

  module _ (differ : i ≡ j → ⊥) where
    two : (not (packages_meet (get_or jobs i 0) (get_or jobs j 0)) ≡ true) × (not (fields_meet m (get_or jobs i 0) (get_or jobs j 0)) ≡ true)
    two = both _ _ (rw (ne_eqb i j differ) at halves.1)

    pub packages-apart : packages_meet (get_or jobs i 0) (get_or jobs j 0) ≡ false
    packages-apart = not-true _ two.0

    pub fields-apart : fields_meet m (get_or jobs i 0) (get_or jobs j 0) ≡ false
    fields-apart = not-true _ two.1

pub ready : (m : List ℕ) (c : Central) (jobs : List ℕ) → HostAccepted m c → length c.registers ≡ 24 → OwnersAccepted m jobs → Ready m c jobs
ready m c jobs host count o =
    record {
      host = host;
      registers = count;
      owner = o.owner;
      package-field = λ i j li lj. package-field-apart m jobs i j (o.apart i j li lj);
      packages = λ i j li lj d. packages-apart m jobs i j (o.apart i j li lj) d;
      fields = λ i j li lj d. fields-apart m jobs i j (o.apart i j li lj) d;
    }

-- an accepted schedule may run
module _ (s : Schedule) (a : ScheduleAccepted s) where
  verdicts : (host_verdict s.memory s.central ≡ Ok tt)
      × ((lists_verdict s.jobs s.stint_jobs s.stint_turns ≡ Ok tt) × (owners_verdict s.memory s.jobs ≡ Ok tt))
  unfolding schedule_verdict
  verdicts =
      let first = both-accept (host_verdict s.memory s.central) _ a.verdict in
      (first.0, both-accept (lists_verdict s.jobs s.stint_jobs s.stint_turns) _ first.1)

  pub accepted-lists : ListsAccepted s.jobs s.stint_jobs s.stint_turns
  accepted-lists = lists-accepted s.jobs s.stint_jobs s.stint_turns verdicts.1.0

  pub accepted-ready : Ready s.memory s.central s.jobs
  accepted-ready =
      ready s.memory s.central s.jobs (host-accepted s.memory s.central verdicts.0) a.registers
      (owners-accepted s.memory s.jobs verdicts.1.1)
