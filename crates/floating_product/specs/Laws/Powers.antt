-- The halves of a product at their exponents, over plain numbers.
use Rattle.std.specs.Prelude.{◌≡◌, refl, ℕ, ◌+◌, ◌-◌, ◌*◌, ◌/◌, ◌%◌, ◌^◌, ◌≤◌}
use Rattle.std.proofs.Common.{sym, ap, ◌∙◌, mul_assoc, mul_left_comm, add-mul, div-add-mod', arith, pow-add}

-- the upper half stands 48 places above the lower
halves-at : (n e : ℕ) → n / 2 ^ 48 * 2 ^ (48 + e) + n % 2 ^ 48 * 2 ^ e ≡ n * 2 ^ e
halves-at n e =
    ap (λ (p : ℕ). n / 2 ^ 48 * p + n % 2 ^ 48 * 2 ^ e) (pow-add 2 48 e)
    ∙ ap (λ (p : ℕ). p + n % 2 ^ 48 * 2 ^ e) (sym (mul_assoc (n / 2 ^ 48) (2 ^ 48) (2 ^ e)))
    ∙ sym (add-mul (n / 2 ^ 48 * 2 ^ 48) (n % 2 ^ 48) (2 ^ e))
    ∙ ap (λ (p : ℕ). p * 2 ^ e) (div-add-mod' n (2 ^ 48))

-- a factor in parts: places moved left, an exponent that has fallen by these and by a bias, and the bias
power-parts : (p move e bias : ℕ) → p * 2 ^ move * 2 ^ e * 2 ^ bias ≡ p * 2 ^ (move + (e + bias))
power-parts p move e bias =
    mul_assoc (p * 2 ^ move) (2 ^ e) (2 ^ bias)
    ∙ ap (λ (q : ℕ). p * 2 ^ move * q) (sym (pow-add 2 e bias))
    ∙ mul_assoc p (2 ^ move) (2 ^ (e + bias))
    ∙ ap (λ (q : ℕ). p * q) (sym (pow-add 2 move (e + bias)))

-- the product of two sizes at the sum of their exponents
product_at : (a b i j : ℕ) → a * b * 2 ^ (i + j) ≡ a * 2 ^ i * (b * 2 ^ j)
product_at a b i j = ap (λ (p : ℕ). a * b * p) (pow-add 2 i j) ∙ simp (mul_assoc, mul_left_comm) refl

-- the halves of a product, moved by some places, at the exponents of 40 and 42 with their bias
pub halves-rebuild : (a b i j move bias : ℕ) → bias + move ≤ i + j
    → (a * b * 2 ^ move / 2 ^ 48 * 2 ^ (i + j + 48 - (bias + move)) + a * b * 2 ^ move % 2 ^ 48 * 2 ^ (i + j - (bias + move))) * 2 ^ bias
    ≡ a * 2 ^ i * (b * 2 ^ j)
halves-rebuild a b i j move bias h =
    let e : i + j + 48 - (bias + move) ≡ 48 + (i + j - (bias + move)) = omega arith in
    let f : move + (i + j - (bias + move) + bias) ≡ i + j = omega arith in
    ap (λ (k : ℕ). (a * b * 2 ^ move / 2 ^ 48 * 2 ^ k + a * b * 2 ^ move % 2 ^ 48 * 2 ^ (i + j - (bias + move))) * 2 ^ bias) e
    ∙ ap (λ (p : ℕ). p * 2 ^ bias) (halves-at (a * b * 2 ^ move) (i + j - (bias + move)))
    ∙ power-parts (a * b) move (i + j - (bias + move)) bias
    ∙ ap (λ (k : ℕ). a * b * 2 ^ k) f
    ∙ product_at a b i j
