-- From the test of the whole sheet to the rule at each entry, and what an entry says.
use Rattle.std.specs.Prelude.{Bool, List, [], ◌∷◌, ◌≡◌, ℕ, zero, suc, ◌+◌, ◌*◌, ◌≤◌, ◌<◌, eqb, get_or}
use Rattle.std.proofs.Math.Bool.{true, false, cond}
use Rattle.std.proofs.Math.Path.{refl}
use Rattle.std.proofs.Common.{ap, ◌∙◌, arith, eqb-true}
use Rattle.base_logic.specs.Laws.Tests.{both}
use Rattle.central_codes.specs.Codes.{is_fit, parcels_of}
use Rattle.central_codes.specs.Laws.Codes.{parcels-few}
use Rattle.central_codes.specs.Table.{entry_of, entry_at, follows_from, follows_rule}

entries_from : (t : List ℕ) (first n : ℕ) → follows_from first t ≡ true → first + n < 0o1000 → get_or t n 0 ≡ entry_at (first + n)
unfolding follows_from
entries_from [] first n e h = absurd (omega (arith, eqb-true first 0o1000 e))
entries_from (x ∷ t) first zero e h =
    let z : first ≡ first + 0 = omega arith in
    eqb-true x (entry_at first) (both (eqb x (entry_at first)) (follows_from (suc first) t) e).0 ∙ ap entry_at z
entries_from (x ∷ t) first (suc n) e h =
    let z : suc first + n ≡ first + suc n = omega arith in
    entries_from t (suc first) n (both (eqb x (entry_at first)) (follows_from (suc first) t) e).1 (omega arith) ∙ ap entry_at z

-- the rule at each entry
pub rule-at : (t : List ℕ) (n : ℕ) → follows_rule t ≡ true → n < 0o1000 → get_or t n 0 ≡ entry_at n
rule-at t n e h =
    let z : 0 + n ≡ n = omega arith in
    entries_from t 0 n e (omega arith) ∙ ap entry_at z

-- what an entry says
module _ (e c i : ℕ) (is : e ≡ entry_of c i) where
  pub entry-unfit : 64 ≤ e → is_fit c i ≡ false
  unfolding entry_of
  entry-unfit h = by-fit (is_fit c i) is
    where
      by-fit : (t : Bool) → e ≡ 15 * parcels_of c + cond t 0 64 → t ≡ false
      by-fit true x = absurd (omega (arith, parcels-few c _ refl))
      by-fit false x = refl

  pub entry-fit : e < 64 → (is_fit c i ≡ true) × (e ≡ 15 * parcels_of c)
  unfolding entry_of
  entry-fit h = by-fit (is_fit c i) is
    where
      by-fit : (t : Bool) → e ≡ 15 * parcels_of c + cond t 0 64 → (t ≡ true) × (e ≡ 15 * parcels_of c)
      by-fit true x = (refl, omega arith)
      by-fit false x = absurd (omega arith)
