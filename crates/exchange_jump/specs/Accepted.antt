-- What an accepted memory, record and package are: the same as the verdicts on them (Laws.Verdicts).
use Rattle.std.specs.Prelude.{true, false, List, ◌≡◌, ℕ, ◌+◌, ◌≤◌, length}
use Rattle.central_record.specs.declared.record.Central.{Central}
use Rattle.central_record.specs.Record.{record_fits, words_fit}
use Rattle.base_lists.specs.Parts.{part}
use Rattle.exchange_package.specs.Package.{has_stray}
use Rattle.exchange_jump.specs.Jump.{record_at}

-- numbers 1, 3 and 5 do not refuse
pub record HostAccepted (m : List ℕ) (c : Central) : Type 0 where
  pub nonempty : 1 ≤ length m
  pub at_most : length m ≤ 131072
  pub words : words_fit m ≡ true
  pub fits : record_fits (length m) c ≡ true

-- numbers 9, 10 and 11 do not refuse
pub record PackageAccepted (m : List ℕ) (at : ℕ) : Type 0 where
  pub inside : at + 16 ≤ length m
  pub no_stray : has_stray (part m at 16) ≡ false
  pub field : (record_at m at).ra + (record_at m at).fl ≤ length m
