-- What the tests of all jobs say of each.
use Rattle.std.specs.Prelude.{true, List, ◌≡◌, ℕ, ◌+◌, ◌≤◌, ◌<◌, length, get_or}
use Rattle.std.proofs.Common.{arith, ◌∙◌}
use Rattle.std.proofs.lemmas.Grind.{get_or_default_zero}
use borrow.Author.Tests.{leb-true}
use Rattle.exchange_jump.specs.Jump.{record_at, package_inside, field_inside}
use Rattle.base_lists.specs.Laws.Indexed.{all-at}
use Rattle.shared_schedule.specs.Refusals.{every_job}
use Rattle.shared_verdict.specs.Owners.{Inside}

module _ (m jobs : List ℕ) (i : ℕ) (l : i < length jobs) where
  pub package-inside : every_job jobs (package_inside m) ≡ true → get_or jobs i 0 + 16 ≤ length m
  unfolding package_inside
  package-inside h = leb-true _ _ (all-at (λ j. package_inside m (get_or jobs j 0)) (length jobs) h i l)

  field-inside : every_job jobs (field_inside m) ≡ true → (record_at m (get_or jobs i 0)).ra + (record_at m (get_or jobs i 0)).fl ≤ length m
  unfolding field_inside
  field-inside h = leb-true _ _ (all-at (λ j. field_inside m (get_or jobs j 0)) (length jobs) h i l)

-- the same of the address that stands at a place
pub inside-at : (m jobs : List ℕ) → every_job jobs (package_inside m) ≡ true → (at i : ℕ) → i < length jobs → at ≡ get_or jobs i at → at + 16 ≤ length m
inside-at m jobs h at i l e = rw (e ∙ get_or_default_zero jobs i at l) (package-inside m jobs i l h)

-- no package and no field ends past the longest memory
module _ {m jobs : List ℕ} (k : Inside m jobs) (i : ℕ) (l : i < length jobs) where
  pub package-end : get_or jobs i 0 + 16 ≤ 131072
  package-end = omega (arith, package-inside m jobs i l k.packages, k.at_most)

  pub field_end : (record_at m (get_or jobs i 0)).ra + (record_at m (get_or jobs i 0)).fl ≤ 131072
  field_end = omega (arith, field-inside m jobs i l k.fields, k.at_most)
