-- The constant K over two parcels.
use Rattle.std.specs.Prelude.{◌≡◌, ℕ, ◌+◌, ◌-◌, ◌*◌, ◌/◌, ◌%◌, ◌^◌, ◌<◌}
use Rattle.std.proofs.Common.{sym, ap, ap₂, ◌∙◌, div-one, arith, shr-shr}
use Rattle.std.proofs.lemmas.Nat.{mod-pow-add}
use Rattle.std.proofs.Math.Pow.{mod-mod-pow}
use Rattle.word_arithmetic.specs.Bits.{bits}
use Rattle.central_decode.specs.Parcels.{parcel, digit, constant_k}

constant-at : (w k : ℕ) → bits w k 18 ≡ bits (bits w (k + 15) 15) 0 3 * 2 ^ 15 + bits w k 15
constant-at w k =
    mod-pow-add (w / 2 ^ k) 3 15
    ∙ ap (λ (x : ℕ). x % 2 ^ 3 * 2 ^ 15 + bits w k 15) (shr-shr w k 15)
    ∙ ap (λ (x : ℕ). x * 2 ^ 15 + bits w k 15) (sym (ap (λ (x : ℕ). x % 2 ^ 3) (div-one (bits w (k + 15) 15)) ∙ mod-mod-pow (w / 2 ^ (k + 15)) 12 3))

-- K is the digit k of its parcel, then the parcel after it
pub constant-over-parcels : (w place : ℕ) → place < 3 → constant_k w place ≡ digit (parcel w place) 4 * 2 ^ 15 + parcel w (place + 1)
constant-over-parcels w place h =
    let e : 30 - 15 * place + 15 ≡ 45 - 15 * place = omega arith in
    let d : 30 - 15 * place ≡ 45 - 15 * (place + 1) = omega arith in
    constant-at w (30 - 15 * place)
    ∙ ap₂ (λ (x y : ℕ). bits (bits w x 15) 0 3 * 2 ^ 15 + bits w y 15) e d
