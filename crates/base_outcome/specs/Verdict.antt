-- What becomes of a call: it is carried out, or refused.
use Rattle.std.specs.Prelude.{Result}
use Rattle.base_outcome.specs.declared.refusal.Refusal.{Refusal}

abbrev pub Verdict : Type 0
Verdict = Result Unit Refusal
