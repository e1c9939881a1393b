-- Demand 3, of the answers of `schedule`.
use Rattle.std.specs.Prelude.{List, [], ◌∷◌, ◌++◌, ◌≡◌, refl, ℕ, suc, ◌<◌, Ok, Err}
use Rattle.std.proofs.Math.Path.{sym}
use Rattle.std.proofs.Common.{ap, subst, ◌∙◌, arith}
use Rattle.std.proofs.Math.ListN.{length, get_or}
use Rattle.base_outcome.specs.Laws.Verdict.{either}
use Rattle.base_outcome.specs.Verdict.{Verdict}
use Rattle.central_record.specs.declared.record.Central.{Central}
use Rattle.single_stint.specs.Stint.{stint_of}
use Rattle.shared_schedule.specs.Isolation.{ScheduleAccepted, start, package_in, field_in, of_job, total, last_of, NoneButLast, Alike, OutsideJobs}
use Rattle.shared_schedule.proofs.Isolation.{isolation, rest-kept, record-kept}
use Rattle.shared_schedule.proofs.Refusals.{accepted-lists}
use Rattle.shared_schedule.specs.Refusals.{schedule_verdict}
use Rattle.shared_schedule.specs.Schedule.{Schedule, stints_of, schedule_end}
use Rattle.shared_calls.specs.Answer.{schedule_answer_by, schedule_answer}

-- a call that is carried out, by its answer
pub record CarriedOut (s : Schedule) : Type 0 where
  pub verdict : (schedule_answer s).answer.verdict ≡ Ok tt
  pub registers : length s.central.registers ≡ 24

-- of the answer's entries, those of job i's stints
abbrev pub turns_of_job : Schedule → ℕ → List ℕ
turns_of_job s i = of_job i s.stint_jobs (schedule_answer s).answer.turns

abbrev pub stops_of_job : Schedule → ℕ → List ℕ
stops_of_job s i = of_job i s.stint_jobs (schedule_answer s).answer.stops

pub record AnswersAlike (s : Schedule) (i : ℕ) (s' : Schedule) (i' : ℕ) : Type 0 where
  pub packages : package_in s i (schedule_answer s).memory ≡ package_in s' i' (schedule_answer s').memory
  pub fields : field_in s i (schedule_answer s).memory ≡ field_in s' i' (schedule_answer s').memory
  pub made : total (turns_of_job s i) ≡ total (turns_of_job s' i')
  pub stop : last_of (stops_of_job s i) ≡ last_of (stops_of_job s' i')

-- the answer's verdict
pub same-verdict : (v : Verdict) (s : Schedule) → (schedule_answer_by v s).answer.verdict ≡ v
same-verdict (Ok _) s = refl
same-verdict (Err r) s = refl

-- an entry for each stint
pub one_each : (jobs js ts m : List ℕ) (c : Central) → length js ≡ length ts
    → (length (stints_of jobs js ts m c).turns ≡ length js) × (length (stints_of jobs js ts m c).stops ≡ length js)
unfolding stints_of
one_each jobs [] ts m c e = (refl, refl)
one_each jobs (j ∷ js) [] m c e = absurd (omega arith)
one_each jobs (j ∷ js) (t ∷ ts) m c e =
    let o = stint_of m c (get_or jobs j 0) t in
    let rest = one_each jobs js ts o.memory o.end.central (omega arith) in
    (ap suc rest.0, ap suc rest.1)

-- entries past the last stint are no job's
past-last : (i : ℕ) (js xs zs : List ℕ) → length xs ≡ length js → of_job i js (xs ++ zs) ≡ of_job i js xs
unfolding of_job
past-last i [] xs zs e = refl
past-last i (j ∷ js) [] zs e = absurd (omega arith)
past-last i (j ∷ js) (x ∷ xs) zs e = rw (past-last i js xs zs (omega arith))

module _ (s : Schedule) (a : CarriedOut s) where
  pub carried-out-accepted : ScheduleAccepted s
  unfolding schedule_answer
  carried-out-accepted = record { verdict = sym (same-verdict (schedule_verdict s) s) ∙ a.verdict; registers = a.registers }

  pub answer-is : schedule_answer s ≡ schedule_answer_by (Ok tt) s
  unfolding schedule_answer
  answer-is = rw carried-out-accepted.verdict

  module _ (i : ℕ) where
    pub job-turns-are : turns_of_job s i ≡ of_job i s.stint_jobs (schedule_end s).turns
    job-turns-are =
        rw answer-is
        (past-last i s.stint_jobs (schedule_end s).turns _ (one_each s.jobs s.stint_jobs s.stint_turns s.memory s.central (accepted-lists s carried-out-accepted).fit.even).0)

    pub stops-are : stops_of_job s i ≡ of_job i s.stint_jobs (schedule_end s).stops
    stops-are =
        rw answer-is
        (past-last i s.stint_jobs (schedule_end s).stops _ (one_each s.jobs s.stint_jobs s.stint_turns s.memory s.central (accepted-lists s carried-out-accepted).fit.even).1)

-- two calls that are carried out give a job that is alike in package, field and turns asked, and stops in no stint but its last, alike answers
pub answers-alike : (s s' : Schedule) → CarriedOut s → CarriedOut s' → (i i' : ℕ) → i < length s.jobs → i' < length s'.jobs
    → NoneButLast (stops_of_job s i) → NoneButLast (stops_of_job s' i') → Alike s i s' i' → AnswersAlike s i s' i'
answers-alike s s' a a' i i' li li' last last' alike =
    let e =
    isolation s s' (carried-out-accepted s a) (carried-out-accepted s' a') i i' li li'
    (subst NoneButLast (stops-are s a i) last) (subst NoneButLast (stops-are s' a' i') last') alike in
    record {
      packages = rw (answer-is s a, answer-is s' a') e.packages;
      fields = rw (answer-is s a, answer-is s' a') e.fields;
      made = rw (job-turns-are s a i, job-turns-are s' a' i') e.made;
      stop = rw (stops-are s a i, stops-are s' a' i') e.stop;
    }

-- accepted or refused: the record comes back as it was, memory keeps its length, and each word outside the listed packages and fields its value
module _ (s : Schedule) (count : length s.central.registers ≡ 24) where
  taken : schedule_verdict s ≡ Ok tt → ScheduleAccepted s
  taken e = record { verdict = e; registers = count }

  pub record-back : (schedule_answer s).answer.central ≡ s.central
  unfolding schedule_answer
  record-back = either (λ v. (schedule_answer_by v s).answer.central ≡ s.central) (schedule_verdict s) (λ e. record-kept s (taken e)) (λ r. refl)

  pub length_back : length (schedule_answer s).memory ≡ length (start s)
  unfolding schedule_answer
  length_back =
      either (λ v. length (schedule_answer_by v s).memory ≡ length (start s)) (schedule_verdict s) (λ e. (rest-kept s (taken e)).0) (λ r. refl)

  pub word_back : (x : ℕ) → OutsideJobs s x → get_or (schedule_answer s).memory x 0 ≡ get_or (start s) x 0
  unfolding schedule_answer
  word_back x out =
      either (λ v. get_or (schedule_answer_by v s).memory x 0 ≡ get_or (start s) x 0) (schedule_verdict s)
      (λ e. (rest-kept s (taken e)).1 x out) (λ r. refl)
