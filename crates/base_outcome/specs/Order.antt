-- The order of refusals.
use Rattle.std.specs.Prelude.{Ok, Err}
use Rattle.base_outcome.specs.Verdict.{Verdict}

-- "Lowest number first": the refusal of the first tests, or else the verdict of the later ones
abbrev pub or_else : Verdict → Verdict → Verdict
or_else (Ok _) later = later
or_else (Err r) later = Err r
