-- What a job sees of a schedule is the fold of its own stints, whatever stands between them; the record and all other words stay.
use Rattle.std.specs.Prelude.{Bool, cond, ◌≡◌, ℕ, suc, ◌<◌, eqb, length, get_or}
use Rattle.std.proofs.Math.Bool.{true, false}
use mathlib.Core.List.{List, [], ◌∷◌}
use Rattle.std.proofs.Math.Path.{refl, ap}
use Rattle.std.proofs.Common.{subst, ◌∙◌, arith, eqb-true}
use Rattle.std.proofs.lemmas.Bool.{eqb-false}
use Rattle.exchange_jump.specs.Jump.{record_at}
use Rattle.central_record.specs.declared.record.Central.{Central}
use Rattle.single_stint.specs.Field.{bounds_of}
use Rattle.single_stint.specs.Laws.Stint.{stint-outside}
use Rattle.single_stint.specs.Stint.{StintMemory, stint_of}
use Rattle.shared_schedule.specs.Isolation.{of_job, Outside}
use Rattle.shared_schedule.specs.Job.{Job, job_at, JobStint, job_stint, JobEnd, job_stint_then, job_stints, left_at, part_of_job}
use Rattle.shared_schedule.specs.Laws.Stint.{stint-may-run, stint-record-kept, length-kept, other-job, own-stint, bounds-kept, ra-kept, fl-kept, still-ready}
use Rattle.shared_schedule.specs.Ready.{Ready, Listed}
use Rattle.shared_schedule.specs.Schedule.{ScheduleEnd, stints_of}

first-listed : (jobs : List ℕ) (j : ℕ) (js : List ℕ) → Listed jobs (j ∷ js) → j < length jobs
first-listed jobs j js l = l 0 (omega arith)

rest-listed : (jobs : List ℕ) (j : ℕ) (js : List ℕ) → Listed jobs (j ∷ js) → Listed jobs js
rest-listed jobs j js l k h = l (suc k) (omega arith)

-- the first stint is job i's own, or another's: by what the later stints leave of job i
module _ (m : List ℕ) (c : Central) (jobs : List ℕ) (r : Ready m c jobs) (i j t : ℕ) (li : i < length jobs) (lj : j < length jobs) (js ts : List ℕ) where
  abbrev now : StintMemory
  now = stint_of m c (get_or jobs j 0) t

  abbrev later : ScheduleEnd
  later = stints_of jobs js ts now.memory now.end.central

  abbrev before : Job
  before = job_at m (get_or jobs i 0)

  own-now : j ≡ i → left_at now (get_or jobs i 0) ≡ job_stint t before
  own-now e =
      subst (λ (k : ℕ). left_at now (get_or jobs k 0) ≡ job_stint t (job_at m (get_or jobs k 0))) e (own-stint m c jobs r j lj t)

  step : part_of_job i jobs js later ≡ job_stints (of_job i js ts) (job_at now.memory (get_or jobs i 0))
      → (own : Bool) → eqb j i ≡ own
      → ◌≡◌ {A = JobEnd}
      (record {
        job = job_at later.memory (get_or jobs i 0);
        turns = cond own (now.end.turns ∷ of_job i js later.turns) (of_job i js later.turns);
        stops = cond own (now.end.stop ∷ of_job i js later.stops) (of_job i js later.stops);
      })
      (job_stints (cond own (t ∷ of_job i js ts) (of_job i js ts)) before)
  unfolding job_stints
  step rest true e =
      ap (job_stint_then (left_at now (get_or jobs i 0))) rest
      ∙ ap (λ (o : JobStint). job_stint_then o (job_stints (of_job i js ts) o.job)) (own-now (eqb-true j i e))
  step rest false e = rest ∙ ap (job_stints (of_job i js ts)) (other-job m c jobs r j lj t i li (eqb-false j i e))

module _ (jobs : List ℕ) where
  pub projection : (js ts m : List ℕ) (c : Central) → Ready m c jobs → Listed jobs js → (i : ℕ) → i < length jobs
      → part_of_job i jobs js (stints_of jobs js ts m c) ≡ job_stints (of_job i js ts) (job_at m (get_or jobs i 0))
  unfolding stints_of of_job job_stints
  projection [] ts m c r l i li = refl
  projection (j ∷ js) [] m c r l i li = refl
  projection (j ∷ js) (t ∷ ts) m c r l i li =
      let lj = first-listed jobs j js l in
      step m c jobs r i j t li lj js ts
      (projection js ts _ _ (still-ready m c jobs r j lj t) (rest-listed jobs j js l) i li)
      (eqb j i) refl

  -- what every stint keeps, the stints keep
  pub stints-keep : (P : List ℕ → Central → Type 0)
      → ((m : List ℕ) (c : Central) → Ready m c jobs → (j : ℕ) → j < length jobs → (t : ℕ) → P m c
      → P (stint_of m c (get_or jobs j 0) t).memory (stint_of m c (get_or jobs j 0) t).end.central)
      → (js ts m : List ℕ) (c : Central) → Ready m c jobs → Listed jobs js → P m c
      → P (stints_of jobs js ts m c).memory (stints_of jobs js ts m c).central
  unfolding stints_of
  stints-keep P one [] ts m c r l h = h
  stints-keep P one (j ∷ js) [] m c r l h = h
  stints-keep P one (j ∷ js) (t ∷ ts) m c r l h =
      let lj = first-listed jobs j js l in
      stints-keep P one js ts _ _ (still-ready m c jobs r j lj t) (rest-listed jobs j js l) (one m c r j lj t h)

  module _ (js ts m : List ℕ) (c : Central) (r : Ready m c jobs) (l : Listed jobs js) where
    abbrev end : ScheduleEnd
    end = stints_of jobs js ts m c

    pub stints-record-back : end.central ≡ c
    stints-record-back =
        stints-keep (λ x d. d ≡ c) (λ x d q j lj t e. stint-record-kept x d jobs q j lj t ∙ e) js ts m c r l refl

    pub stints-length-back : length end.memory ≡ length m
    stints-length-back =
        stints-keep (λ x d. length x ≡ length m) (λ x d q j lj t e. length-kept x d jobs q j lj t ∙ e) js ts m c r l refl

    -- RA, FL and EM of every job stay
    pub bounds-back : (i : ℕ) → i < length jobs → bounds_of (record_at end.memory (get_or jobs i 0)) ≡ bounds_of (record_at m (get_or jobs i 0))
    bounds-back i li =
        stints-keep (λ x d. bounds_of (record_at x (get_or jobs i 0)) ≡ bounds_of (record_at m (get_or jobs i 0)))
        (λ x d q j lj t e. bounds-kept x d jobs q j lj t i li ∙ e) js ts m c r l refl

    -- a word outside every package and field stays
    pub stints-word-back : (w : ℕ) → ((i : ℕ) → i < length jobs → Outside m (get_or jobs i 0) w) → get_or end.memory w 0 ≡ get_or m w 0
    stints-word-back w out =
        (stints-keep (λ x d. (get_or x w 0 ≡ get_or m w 0) × ((i : ℕ) → i < length jobs → Outside x (get_or jobs i 0) w))
        (λ x d q j lj t h. (
          stint-outside x d (get_or jobs j 0) (stint-may-run x d jobs q j lj) t w (h.1 j lj).package-free (h.1 j lj).field-free ∙ h.0,
          λ i li. record {
            package-free = (h.1 i li).package-free;
            field-free = rw (ra-kept x d jobs q j lj t i li, fl-kept x d jobs q j lj t i li) (h.1 i li).field-free;
          },
        ))
        js ts m c r l (refl, out)).0
