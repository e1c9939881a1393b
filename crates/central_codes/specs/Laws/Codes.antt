-- The length of a code.
use Rattle.std.specs.Prelude.{◌≡◌, ℕ, ◌≤◌}
use Rattle.std.proofs.Common.{sym, subst, arith}
use Rattle.base_logic.specs.Laws.Choice.{of-cond}
use Rattle.central_codes.specs.Codes.{is_long, parcels_of}

-- an instruction has one or two parcels
pub parcels-few : (c n : ℕ) → n ≡ parcels_of c → (1 ≤ n) × (n ≤ 2)
unfolding parcels_of
parcels-few c n e =
    subst (λ (k : ℕ). (1 ≤ k) × (k ≤ 2)) (sym e)
    (of-cond (λ (k : ℕ). (1 ≤ k) × (k ≤ 2)) (is_long c) (λ t. (omega arith, omega arith)) (λ t. (omega arith, omega arith)))
