-- Which schedules are refused, by document 01, "Who can be turned down": "Lowest number first, over all jobs before the next number".
use Rattle.std.specs.Prelude.{Bool, not, ◌&&◌, ◌||◌, cond, List, ℕ, leb, eqb, length, get_or, Ok, Err}
use Rattle.base_outcome.specs.declared.refusal.Refusal.TheVariants as Refusal
use Rattle.base_outcome.specs.Verdict.{Verdict}
use Rattle.base_lists.specs.Indexed.{all_below}
use Rattle.exchange_jump.specs.Jump.{record_at, package_inside, package_clean, field_inside}
use Rattle.central_record.specs.Record.{below, host_verdict}
use Rattle.base_outcome.specs.Order.{or_else}
use Rattle.base_lists.specs.Overlap.{shares_word}
use Rattle.single_calls.specs.Turns.{most_turns}
use Rattle.shared_limits.specs.Limits.{most_stints, jobs_fit}
use Rattle.shared_schedule.specs.Schedule.{Schedule}

-- 6 "no job, over .. jobs, over .. stints, or lists of unequal length": none of these. The two limits stand in `shared_limits`
unfoldable pub lists_fit : List ℕ → List ℕ → List ℕ → Bool
lists_fit jobs stint_jobs stint_turns =
    jobs_fit (length jobs)
    && leb (length stint_jobs) most_stints
    && eqb (length stint_jobs) (length stint_turns)

-- 7 "stint of no listed job"; "jobs and stints are numbered from 0"
unfoldable pub jobs_listed : List ℕ → List ℕ → Bool
jobs_listed jobs stint_jobs = all_below (length stint_jobs) (below (length jobs) stint_jobs)

-- 8 "a stint over 65,535 turns"
unfoldable pub turns_fit : List ℕ → Bool
turns_fit stint_turns = all_below (length stint_turns) (λ i. leb (get_or stint_turns i 0) most_turns)

-- 6 to 8: the schedule writer's
unfoldable pub lists_verdict : List ℕ → List ℕ → List ℕ → Verdict
lists_verdict jobs stint_jobs stint_turns =
    cond (lists_fit jobs stint_jobs stint_turns)
    (cond (jobs_listed jobs stint_jobs)
    (cond (turns_fit stint_turns) (Ok tt) (Err Refusal.TooManyTurns))
    (Err Refusal.UnlistedJob))
    (Err Refusal.ListLength)

-- a test of every job's package address
abbrev pub every_job : List ℕ → (ℕ → Bool) → Bool
every_job jobs test = all_below (length jobs) (λ i. test (get_or jobs i 0))

-- the package at a against the field of the package at b
abbrev pub package_meets_field : List ℕ → ℕ → ℕ → Bool
package_meets_field m a b = shares_word a 16 (record_at m b).ra (record_at m b).fl

-- the two packages, and their two fields
abbrev pub packages_meet : ℕ → ℕ → Bool
packages_meet a b = shares_word a 16 b 16

abbrev pub fields_meet : List ℕ → ℕ → ℕ → Bool
fields_meet m a b = shares_word (record_at m a).ra (record_at m a).fl (record_at m b).ra (record_at m b).fl

-- 12 "any two of the listed packages and fields share a word": a package and a field of any two jobs, a job's own included;
-- two packages or two fields of different jobs
unfoldable pub jobs_apart : List ℕ → List ℕ → ℕ → ℕ → Bool
jobs_apart m jobs i j =
    not (package_meets_field m (get_or jobs i 0) (get_or jobs j 0))
    && (eqb i j || (not (packages_meet (get_or jobs i 0) (get_or jobs j 0)) && not (fields_meet m (get_or jobs i 0) (get_or jobs j 0))))

unfoldable pub all_apart : List ℕ → List ℕ → Bool
all_apart m jobs = all_below (length jobs) (λ i. all_below (length jobs) (jobs_apart m jobs i))

-- 9 to 12: the package owners'
unfoldable pub owners_verdict : List ℕ → List ℕ → Verdict
owners_verdict m jobs =
    cond (every_job jobs (package_inside m))
    (cond (every_job jobs (package_clean m))
    (cond (every_job jobs (field_inside m))
    (cond (all_apart m jobs) (Ok tt) (Err Refusal.SharedWord))
    (Err Refusal.FieldPastEnd))
    (Err Refusal.StrayBits))
    (Err Refusal.PackagePastEnd)

-- 1, 3 and 5, the host's, then 6 to 8, then 9 to 12
unfoldable pub schedule_verdict : Schedule → Verdict
schedule_verdict s =
    or_else (host_verdict s.memory s.central)
    (or_else (lists_verdict s.jobs s.stint_jobs s.stint_turns) (owners_verdict s.memory s.jobs))
