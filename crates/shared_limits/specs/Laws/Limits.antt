-- A list of jobs at the limit, and past it.
use Rattle.std.specs.Prelude.{Bool, true, false, ◌≡◌, ℕ, ◌≤◌, ◌<◌, leb}
use Rattle.std.proofs.Math.Bool.{and-false}
use borrow.Author.Tests.{leb-true, le-leb, lt-leb}
use Rattle.base_logic.specs.Laws.Tests.{both}
use Rattle.shared_limits.specs.Limits.{most_jobs, jobs_fit}

module _ (n : ℕ) where
  -- exactly the lists of one job up to the limit fit
  pub jobs-fit : jobs_fit n ≡ true → (1 ≤ n) × (n ≤ most_jobs)
  unfolding jobs_fit
  jobs-fit e = let tests = both (leb 1 n) (leb n most_jobs) e in (leb-true 1 n tests.0, leb-true n most_jobs tests.1)

  pub few-jobs-fit : 1 ≤ n → n ≤ most_jobs → jobs_fit n ≡ true
  unfolding jobs_fit
  few-jobs-fit some few = rw (le-leb 1 n some, le-leb n most_jobs few)

  pub more-jobs-refused : most_jobs < n → jobs_fit n ≡ false
  unfolding jobs_fit
  more-jobs-refused more = rw (lt-leb n most_jobs more, and-false)
