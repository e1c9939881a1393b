-- How long the lists of a schedule may be: document 01, number 6, with request (j) of document 02.
use Rattle.std.specs.Prelude.{Bool, ◌&&◌, ℕ, leb}

-- (j) "The longest list at any house holds eleven. The limit in number 6 becomes eleven from sixteen, and the SHARED sheet says eleven."
abbrev pub most_jobs : ℕ
most_jobs = 11

-- 6 "over 256 stints" is refused
abbrev pub most_stints : ℕ
most_stints = 256

-- 6 "no job", or over the limit of jobs: neither of these
unfoldable pub jobs_fit : ℕ → Bool
jobs_fit n = leb 1 n && leb n most_jobs
