-- A word shifted left has no places: a step counts the bits of the word that remain.
use Rattle.std.specs.Prelude.{ℕ, ◌-◌, ◌*◌, ◌/◌}
use Rattle.central_apply.specs.declared.apply.Step.TheVariants as Then
use Rattle.central_apply.specs.declared.apply.Step.{Step}
use Rattle.central_apply.specs.Apply.{After}

-- the bits of a word from this place on
abbrev pub remaining_from : ℕ → ℕ
remaining_from place = 60 - 15 * place

-- the place at which this many bits remain
abbrev pub place_by_remaining : ℕ → ℕ
place_by_remaining remaining = 4 - remaining / 15

-- a step that goes on gives the bits that remain, and not the place
abbrev pub by_remaining : Step → Step
by_remaining (Then.Next place) = Then.Next (remaining_from place)
by_remaining (Then.Branch target) = Then.Branch target
by_remaining (Then.Stop c) = Then.Stop c

abbrev pub after_by_remaining : After → After
after_by_remaining a = record { state = a.state; step = by_remaining a.step }
