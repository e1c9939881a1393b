-- The room that the numbers of a line take up. It follows from the limits of a schedule's lists.
use Rattle.std.specs.Prelude.{ℕ, ◌+◌, ◌*◌}
use Rattle.shared_limits.specs.Limits.{most_jobs, most_stints}

-- lists that are too long are tried too: of jobs up to twice the limit, of stints one entry more
abbrev pub job_room : ℕ
job_room = 2 * most_jobs

abbrev pub stint_room : ℕ
stint_room = most_stints + 1

-- the places of all numbers of a line but those of its words: 114 numbers, then three lists, each after its count
abbrev pub places : ℕ
places = 114 + (1 + job_room) + (1 + stint_room) + (1 + stint_room)
