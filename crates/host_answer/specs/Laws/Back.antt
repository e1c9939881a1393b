-- The number of a call and its record, by the verdict.
use Rattle.std.specs.Prelude.{List, ◌≡◌, ℕ, Ok, Err}
use Rattle.base_outcome.specs.Numbers.{refusal_number}
use Rattle.base_outcome.specs.declared.refusal.Refusal.{Refusal}
use Rattle.base_outcome.specs.Verdict.{Verdict}
use Rattle.host_answer.specs.Back.{back, back_by}

module _ (v : Verdict) (numbers given : List ℕ) where
  pub kept-accepted : (after : List ℕ) → v ≡ Ok tt → after ≡ numbers → back 0 after ≡ back_by v numbers given
  kept-accepted after e h = rw (e, h)

  pub kept-refused : (r : Refusal) (n : ℕ) → v ≡ Err r → n ≡ refusal_number r → back n given ≡ back_by v numbers given
  kept-refused r n e h = rw (e, h)
