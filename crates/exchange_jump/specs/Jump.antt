-- The exchange jump, by document 01, "Memory and records" and "Who can be turned down".
use Rattle.std.specs.Prelude.{ℕ, ◌+◌, Bool, not, cond, List, leb, length, Ok, Err}
use Rattle.base_outcome.specs.declared.refusal.Refusal.TheVariants as Refusal
use Rattle.base_outcome.specs.Verdict.{Verdict}
use Rattle.central_record.specs.declared.record.Central.{Central}
use Rattle.base_lists.specs.Parts.{part, splice}
use Rattle.exchange_package.specs.Package.{coded, package_record, has_stray}

-- the record of the package at an address
abbrev pub record_at : List ℕ → ℕ → Central
record_at m at = package_record (part m at 16)

-- 9 "package past the end": not this one
unfoldable pub package_inside : List ℕ → ℕ → Bool
package_inside m at = leb (at + 16) (length m)

-- 10 "stray bits": none
unfoldable pub package_clean : List ℕ → ℕ → Bool
package_clean m at = not (has_stray (part m at 16))

-- 11 "RA + FL past the end": not here
unfoldable pub field_inside : List ℕ → ℕ → Bool
field_inside m at = leb ((record_at m at).ra + (record_at m at).fl) (length m)

-- 9, 10 and 11, lowest first
unfoldable pub package_verdict : List ℕ → ℕ → Verdict
package_verdict m at =
    cond (package_inside m at)
    (cond (package_clean m at)
    (cond (field_inside m at) (Ok tt) (Err Refusal.FieldPastEnd))
    (Err Refusal.StrayBits))
    (Err Refusal.PackagePastEnd)

-- memory and record after an exchange jump
pub record Exchanged : Type 0 where
  pub memory : List ℕ
  pub central : Central

abbrev pub exchanged_to : List ℕ → Central → Exchanged
exchanged_to m c = record { memory = m; central = c }

-- "An exchange jump swaps package and registers and sets the central processor running, whether it was stopped or not."
unfoldable pub exchanged : List ℕ → Central → ℕ → Exchanged
exchanged m c at = exchanged_to (splice m at 16 (coded c)) (record_at m at)
