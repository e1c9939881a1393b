-- Of lists that are too long the first job or stint past the limit is at fault, so the entries that a reader keeps name the same one as all.
use Rattle.std.specs.Prelude.{Option, None, Bool, true, false, List, [], ◌∷◌, ◌≡◌, refl, ℕ, suc, eqb, ltb, length, take}
use Rattle.std.proofs.Common.{⊎_elim, ap, arith, ne_eqb, lt-ltb, take_all, length-take-le}
use Rattle.base_logic.specs.Laws.Choice.{of-cond, le-or-lt}
use Rattle.base_outcome.specs.Verdict.{Verdict}
use Rattle.central_record.specs.Record.{length_fits, words_fit, record_fits, host_verdict}
use Rattle.console_calls.specs.Console.{zero_record, schedule_in}
use Rattle.console_calls.specs.Laws.Kept.{fit, firsts-fit, fits-firsts, refused_by, unfit}
use Rattle.console_grammar.specs.Held.{firsts, keep, job_entries, stint_entries}
use Rattle.console_grammar.specs.Reading.{Request, Reading, no_line, readable, unreadable}
use Rattle.shared_fault.specs.Fault.{length_fault, fault_of, finding_to, finding_of}
use Rattle.shared_fault.specs.declared.fault.Fault.{Fault}
use Rattle.shared_limits.specs.Limits.{most_jobs, most_stints}
use Rattle.console_reason.specs.Reason.{reason_on}
use Rattle.console_reason.specs.Text.{finding_text}

-- one entry more than n tells whether there is any, and whether there are more than n
any-kept : (n : ℕ) (l : List ℕ) → eqb (length (take (suc n) l)) 0 ≡ eqb (length l) 0
any-kept n [] = refl
any-kept n (x ∷ l) = rw (ne_eqb (suc (length (take n l))) 0 (λ e. omega (arith, e)), ne_eqb (suc (length l)) 0 (λ e. omega (arith, e)))

over-kept : (n : ℕ) (l : List ℕ) → ltb n (length (take (suc n) l)) ≡ ltb n (length l)
over-kept n l =
    ⊎_elim
    (λ h. rw (take_all (suc n) l (omega arith)))
    (λ h. rw (length-take-le (suc n) l (omega arith), lt-ltb n (length l) h, lt-ltb n (suc n) (omega arith)))
    (le-or-lt (length l) n)

length-kept : (jobs stints : List ℕ) → length_fault (length (take job_entries jobs)) (length (take stint_entries stints)) ≡ length_fault (length jobs) (length stints)
unfolding length_fault
length-kept jobs stints = rw (any-kept most_jobs jobs, over-kept most_jobs jobs, over-kept most_stints stints)

-- lists that do not fit: 6, or a number of the host's, of which nobody is at fault
fault-kept : (q : Request)
    → fault_of (refused_by (host_verdict q.memory zero_record)) (schedule_in (firsts q)) ≡ fault_of (refused_by (host_verdict q.memory zero_record)) (schedule_in q)
unfolding host_verdict
fault-kept q =
    of-cond Alike (length_fits (length q.memory))
    (λ e.
    of-cond Alike (words_fit q.memory)
    (λ f. of-cond Alike (record_fits (length q.memory) zero_record) (λ g. length-kept q.jobs q.stint_jobs) (λ g. refl))
    (λ f. refl))
    (λ e. refl)
  where
    Alike : Verdict → Type 0
    Alike v = fault_of (refused_by v) (schedule_in (firsts q)) ≡ fault_of (refused_by v) (schedule_in q)

unfit-kept : (q : Request) → fit q ≡ false → fit (firsts q) ≡ false → finding_of (schedule_in (firsts q)) ≡ finding_of (schedule_in q)
unfolding finding_of
unfit-kept q e f =
    let v = refused_by (host_verdict q.memory zero_record) in
    rw (unfit q e, unfit (firsts q) f) (ap (λ (x : Option Fault). finding_to v x) (fault-kept q))

finding-kept : (q : Request) (t u : Bool) → fit q ≡ t → fit (firsts q) ≡ u → finding_of (schedule_in (firsts q)) ≡ finding_of (schedule_in q)
finding-kept q true u e f = ap (λ (r : Request). finding_of (schedule_in r)) (fits-firsts q e)
finding-kept q false true e f = ap (λ (r : Request). finding_of (schedule_in r)) (firsts-fit q f)
finding-kept q false false e f = unfit-kept q e f

pub reason_kept : (x : Reading) → reason_on None (keep x) ≡ reason_on None x
reason_kept no_line = refl
reason_kept (readable part q) = ap finding_text (finding-kept q (fit q) (fit (firsts q)) refl refl)
reason_kept unreadable = refl
