-- The product of two numbers of two digits each, by columns, in any base.
use Rattle.std.specs.Prelude.{◌≡◌, refl, ℕ, ◌+◌, ◌*◌, ◌/◌, ◌%◌, ◌^◌, ◌<◌}
use Rattle.std.proofs.Common.{ap, ap₂, ◌∙◌, add_assoc, add_comm, mul_assoc, mul_comm, mul_left_comm, mul-add, add-mul, mod-lt, div-add-mod', lt_of_le_of_lt, le_of_lt, mul-le-mul_left, mul-lt-mul_of_pos_right, pow_pos, pow-add}
use Rattle.std.proofs.Math.Path.{subst⁻¹}
use Rattle.std.proofs.Math.Nat.{add_left_comm}
use Rattle.std.proofs.Math.Arith.{digits_lt}

-- a product of two numbers of k bits has 2 k bits
pub product-bits : (k : ℕ) {a b : ℕ} → a < 2 ^ k → b < 2 ^ k → a * b < 2 ^ (k + k)
product-bits k {a} {b} ha hb =
    subst⁻¹ (λ (n : ℕ). a * b < n) (pow-add 2 k k)
    (lt_of_le_of_lt (mul-le-mul_left a (le_of_lt hb)) (mul-lt-mul_of_pos_right ha (pow_pos k)))

-- the columns, each with the carry of the one to its right
abbrev pub low_column : ℕ → ℕ → ℕ → ℕ
low_column P a b = a % P * (b % P)

abbrev pub middle_column : ℕ → ℕ → ℕ → ℕ
middle_column P a b = a / P * (b % P) + a % P * (b / P) + low_column P a b / P

abbrev pub high_column : ℕ → ℕ → ℕ → ℕ
high_column P a b = a / P * (b / P) + middle_column P a b / P

-- digits a1 a0 and b1 b0, with the carry c and the digit d of the low column, and those of the middle one
columns-join : (P a1 a0 b1 b0 c0 d0 c d : ℕ) → c0 * P + d0 ≡ a0 * b0 → c * P + d ≡ a1 * b0 + a0 * b1 + c0
    → (a1 * b1 + c) * (P * P) + (d * P + d0) ≡ (a1 * P + a0) * (b1 * P + b0)
columns-join P a1 a0 b1 b0 c0 d0 c d low middle =
    apart
    ∙ ap (λ (n : ℕ). a1 * b1 * (P * P) + n * P + d0) middle
    ∙ carried
    ∙ ap (λ (n : ℕ). a1 * b1 * (P * P) + (a1 * b0 + a0 * b1) * P + n) low
    ∙ multiplied
  where
    apart : (a1 * b1 + c) * (P * P) + (d * P + d0) ≡ a1 * b1 * (P * P) + (c * P + d) * P + d0
    apart = simp (add-mul, mul_assoc, add_assoc, add_left_comm) refl

    carried : a1 * b1 * (P * P) + (a1 * b0 + a0 * b1 + c0) * P + d0 ≡ a1 * b1 * (P * P) + (a1 * b0 + a0 * b1) * P + (c0 * P + d0)
    carried = simp (add-mul, add_assoc) refl

    multiplied : a1 * b1 * (P * P) + (a1 * b0 + a0 * b1) * P + a0 * b0 ≡ (a1 * P + a0) * (b1 * P + b0)
    multiplied = simp (mul-add, add-mul, mul_assoc, mul_comm, mul_left_comm, add_assoc, add_comm, add_left_comm) refl

module _ (P a b : ℕ) (p : 0 < P) where
  pub by-columns : high_column P a b * (P * P) + (middle_column P a b % P * P + low_column P a b % P) ≡ a * b
  by-columns =
      columns-join P (a / P) (a % P) (b / P) (b % P) _ _ _ _ (div-add-mod' (low_column P a b) P) (div-add-mod' (middle_column P a b) P)
      ∙ ap₂ (λ (m n : ℕ). m * n) (div-add-mod' a P) (div-add-mod' b P)

  -- what stands below the high column has two digits
  pub low-digits : middle_column P a b % P * P + low_column P a b % P < P * P
  low-digits = digits_lt (mod-lt (middle_column P a b) p) (mod-lt (low_column P a b) p)
