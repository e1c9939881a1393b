-- `central_codes::table::table` meets its contract.
use mathlib.Core.Path.{refl}
use Rattle.central_codes.specs.Codes.{is_long, is_left_out, is_fit, parcels_of}
use Rattle.central_codes.specs.Table.{entry_of, follows_from}
use Rattle.central_codes.proofs.table.table.Goals as goal

-- the test, computed over all 512 entries
pub invariant_of-result : goal.invariant_of-result
unfolding is_long is_left_out is_fit parcels_of entry_of follows_from
invariant_of-result c = record { by_rule = refl }
