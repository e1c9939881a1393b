-- Lists that are too long are refused with 6, however long, so the entries that a reader keeps give the answer of all.
use Rattle.std.specs.Prelude.{Bool, true, false, List, [], ◌∷◌, ◌≡◌, refl, ℕ, zero, suc, ◌≤◌, length, take, Ok, Err}
use Rattle.std.proofs.Common.{ap, arith, take_all}
use Rattle.base_outcome.specs.Verdict.{Verdict}
use Rattle.base_outcome.specs.declared.refusal.Refusal.TheVariants as Refusal
use Rattle.central_record.specs.Record.{host_verdict}
use Rattle.base_outcome.specs.Order.{or_else}
use Rattle.shared_limits.specs.Limits.{most_jobs, most_stints}
use Rattle.shared_schedule.specs.Refusals.{lists_fit, lists_verdict, owners_verdict, schedule_verdict}
use Rattle.shared_schedule.specs.Schedule.{Schedule}
use Rattle.shared_schedule.proofs.Refusals.{lists-fit}
use Rattle.console_grammar.specs.Reading.{Request, Reading, no_line, readable, unreadable}
use Rattle.console_grammar.specs.Held.{firsts, keep, job_entries, stint_entries}
use Rattle.console_calls.specs.Console.{zero_record, schedule_in, printed, output_on}

-- a list of which one entry more than n was kept, and that has no more than n, was kept whole
kept_whole : (n : ℕ) (l : List ℕ) → length (take (suc n) l) ≤ n → take (suc n) l ≡ l
kept_whole zero [] h = refl
kept_whole zero (x ∷ l) h = absurd (omega arith)
kept_whole (suc n) [] h = refl
kept_whole (suc n) (x ∷ l) h = ap (λ (t : List ℕ). x ∷ t) (kept_whole n l (omega arith))

abbrev pub fit : Request → Bool
fit q = lists_fit q.jobs q.stint_jobs q.stint_turns

-- lists that fit were kept whole
pub firsts-fit : (q : Request) → fit (firsts q) ≡ true → firsts q ≡ q
firsts-fit q e =
    let s = lists-fit (take job_entries q.jobs) (take stint_entries q.stint_jobs) (take stint_entries q.stint_turns) e in
    rw (
      kept_whole most_jobs q.jobs s.most-jobs,
      kept_whole most_stints q.stint_jobs s.most-stints,
      kept_whole most_stints q.stint_turns (omega (arith, s.most-stints, s.even)),
    )

pub fits-firsts : (q : Request) → fit q ≡ true → firsts q ≡ q
fits-firsts q e =
    let s = lists-fit q.jobs q.stint_jobs q.stint_turns e in
    rw (
      take_all job_entries q.jobs (omega (arith, s.most-jobs)),
      take_all stint_entries q.stint_jobs (omega (arith, s.most-stints)),
      take_all stint_entries q.stint_turns (omega (arith, s.most-stints, s.even)),
    )

-- lists that do not fit are refused with 6, or with a lower number that does not depend on them
abbrev pub refused_by : Verdict → Verdict
refused_by (Ok _) = Err Refusal.ListLength
refused_by (Err r) = Err r

refused-first : (v w : Verdict) → or_else v (or_else (Err Refusal.ListLength) w) ≡ refused_by v
refused-first (Ok _) w = refl
refused-first (Err r) w = refl

pub unfit : (q : Request) → fit q ≡ false → schedule_verdict (schedule_in q) ≡ refused_by (host_verdict q.memory zero_record)
unfolding schedule_verdict lists_verdict
unfit q e = rw e (refused-first (host_verdict q.memory zero_record) (owners_verdict q.memory q.jobs))

printed-refused : (v : Verdict) (s t : Schedule) → printed (refused_by v) s ≡ printed (refused_by v) t
printed-refused (Ok _) s t = refl
printed-refused (Err r) s t = refl

abbrev answered : Request → List ℕ
answered q = printed (schedule_verdict (schedule_in q)) (schedule_in q)

answered-unfit : (q : Request) → fit q ≡ false → fit (firsts q) ≡ false → answered (firsts q) ≡ answered q
answered-unfit q e f =
    rw (unfit q e, unfit (firsts q) f) (printed-refused (host_verdict q.memory zero_record) (schedule_in (firsts q)) (schedule_in q))

answered-by : (q : Request) (t u : Bool) → fit q ≡ t → fit (firsts q) ≡ u → answered (firsts q) ≡ answered q
answered-by q true u e f = ap answered (fits-firsts q e)
answered-by q false true e f = ap answered (firsts-fit q f)
answered-by q false false e f = answered-unfit q e f

pub output-kept : (x : Reading) → output_on (keep x) ≡ output_on x
unfolding output_on
output-kept no_line = refl
output-kept (readable part q) = answered-by q (fit q) (fit (firsts q)) refl refl
output-kept unreadable = refl
