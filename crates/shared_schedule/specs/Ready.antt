-- What is asked of memory, record, jobs and stints that may run. An accepted schedule has it (Laws.Refusals), and every stint keeps it (Laws.Stint).
use Rattle.std.specs.Prelude.{false, List, ◌≡◌, ℕ, ◌<◌, length, get_or}
use Rattle.exchange_jump.specs.Accepted.{HostAccepted, PackageAccepted}
use Rattle.central_record.specs.declared.record.Central.{Central}
use Rattle.shared_schedule.specs.Refusals.{package_meets_field, packages_meet, fields_meet}

-- memory, record and jobs that may be scheduled: the host lends what it may, each package is accepted, and no two packages or fields share a word
pub record Ready (m : List ℕ) (c : Central) (jobs : List ℕ) : Type 0 where
  pub host : HostAccepted m c
  pub registers : length c.registers ≡ 24
  pub owner : (i : ℕ) → i < length jobs → PackageAccepted m (get_or jobs i 0)
  pub package-field : (i j : ℕ) → i < length jobs → j < length jobs → package_meets_field m (get_or jobs i 0) (get_or jobs j 0) ≡ false
  pub packages : (i j : ℕ) → i < length jobs → j < length jobs → (i ≡ j → ⊥) → packages_meet (get_or jobs i 0) (get_or jobs j 0) ≡ false
  pub fields : (i j : ℕ) → i < length jobs → j < length jobs → (i ≡ j → ⊥) → fields_meet m (get_or jobs i 0) (get_or jobs j 0) ≡ false

-- every stint is of a listed job
abbrev pub Listed : List ℕ → List ℕ → Type 0
Listed jobs js = (k : ℕ) → k < length js → get_or js k 0 < length jobs
