-- The logical codes bit by bit.
use Rattle.std.specs.Prelude.{◌&&◌, List, [], ◌∷◌, map, ◌≡◌, refl, ℕ, zero, suc, ◌+◌, ◌-◌, ◌*◌, ◌/◌, ◌%◌, ◌^◌, ◌<◌, min, max, ltb, get_or}
use Rattle.std.proofs.Common.{⊎_elim, sym, ap, ap₂, ◌∙◌, mod-eq_of_lt, arith, lt-ltb, le-ltb}
use Rattle.std.proofs.Math.Nat.{zero-div}
use Rattle.std.specs.Int.Bits.{bit_and, bit_or, bit_xor, differ, and_step, or_step, xor_step, and_lt, or_add_and, xor_add_and}
use Rattle.std.proofs.lemmas.Nat.{and_shr, or_shr, xor_shr, or_lt, xor_lt, and_le_l, and_le_r, and_mask}
use Rattle.std.proofs.Math.ListN.{get_or-map}
use Rattle.word_arithmetic.specs.Bits.{bit}
use Rattle.word_arithmetic.specs.Sums.{complement}
use Rattle.word_arithmetic.specs.Logic.{logical_results, logical, selective_clear}
use Rattle.base_logic.specs.Laws.Choice.{le-or-lt}
use Rattle.base_lists.specs.Laws.Each.{of-get_d}
use Rattle.word_arithmetic.specs.Laws.Bits.{bit-lt, bit-ones}
use Rattle.word_arithmetic.specs.Laws.Sums.{complement-lt}

last-digit : (q r : ℕ) → r < 2 → (q * 2 + r) % 2 ≡ r
last-digit q r h = omega arith

differ-lt : (x y : ℕ) → x < 2 → y < 2 → differ x y < 2
differ-lt zero y hx hy = hy
differ-lt (suc zero) zero hx hy = hx
differ-lt (suc zero) (suc zero) hx hy = omega arith
differ-lt (suc zero) (suc (suc y)) hx hy = absurd (omega arith)
differ-lt (suc (suc x)) y hx hy = absurd (omega arith)

-- an operation that goes by f on each pair of digits does so on each pair of bits
bit-by-bit : (op f : ℕ → ℕ → ℕ) → ((x y : ℕ) → x < 2 → y < 2 → f x y < 2)
    → ((a b i : ℕ) → op a b / 2 ^ i ≡ op (a / 2 ^ i) (b / 2 ^ i))
    → ((a b : ℕ) → op a b ≡ op (a / 2) (b / 2) * 2 + f (a % 2) (b % 2))
    → (a b i : ℕ)
    → bit (op a b) i ≡ f (bit a i) (bit b i)
bit-by-bit op f small shr step a b i =
    ap (λ (x : ℕ). x % 2) (shr a b i ∙ step (a / 2 ^ i) (b / 2 ^ i))
    ∙ last-digit (op (a / 2 ^ i / 2) (b / 2 ^ i / 2)) (f (bit a i) (bit b i)) (small (bit a i) (bit b i) (bit-lt a i) (bit-lt b i))

-- the logical sum has k bits exactly where both numbers have
pub or-width : (k a b : ℕ) → ltb (bit_or a b) (2 ^ k) ≡ (ltb a (2 ^ k) && ltb b (2 ^ k))
or-width k a b =
    let add = or_add_and a b in
    let left = and_le_l a b in
    let right = and_le_r a b in
    ⊎_elim
    (λ h. rw (le-ltb a (2 ^ k) h) (le-ltb (bit_or a b) (2 ^ k) (omega (arith, add, right))))
    (λ ha.
    ⊎_elim
    (λ h. rw (lt-ltb a (2 ^ k) ha, le-ltb b (2 ^ k) h) (le-ltb (bit_or a b) (2 ^ k) (omega (arith, add, left))))
    (λ hb. rw (lt-ltb a (2 ^ k) ha, lt-ltb b (2 ^ k) hb) (lt-ltb (bit_or a b) (2 ^ k) (or_lt k a b ha hb)))
    (le-or-lt (2 ^ k) b))
    (le-or-lt (2 ^ k) a)

-- a bit of the product is set where both are, of the sum where one is, of the difference where they differ
pub and-bit : (a b i : ℕ) → bit (bit_and a b) i ≡ min (bit a i) (bit b i)
and-bit = bit-by-bit bit_and min (λ x y hx hy. omega arith) and_shr and_step

pub or-bit : (a b i : ℕ) → bit (bit_or a b) i ≡ max (bit a i) (bit b i)
or-bit = bit-by-bit bit_or max (λ x y hx hy. omega arith) or_shr or_step

pub xor-bit : (a b i : ℕ) → bit (bit_xor a b) i ≡ differ (bit a i) (bit b i)
xor-bit = bit-by-bit bit_xor differ differ-lt xor_shr xor_step

-- the complement is the difference with all ones
pub xor_ones : (n a : ℕ) → a < 2 ^ n → bit_xor a (2 ^ n - 1) ≡ complement n a
xor_ones n a h = omega (arith, xor_add_and a (2 ^ n - 1), and_mask a n, mod-eq_of_lt h)

differ-one : (x : ℕ) → x < 2 → differ x 1 ≡ 1 - x
differ-one zero h = refl
differ-one (suc zero) h = refl
differ-one (suc (suc x)) h = absurd (omega arith)

-- of the complement where it was clear
pub complement-bit : (n a i : ℕ) → a < 2 ^ n → i < n → bit (complement n a) i ≡ 1 - bit a i
complement-bit n a i h l =
    ap (λ (x : ℕ). bit x i) (sym (xor_ones n a h))
    ∙ xor-bit a (2 ^ n - 1) i
    ∙ ap (differ (bit a i)) (bit-ones n i l)
    ∙ differ-one (bit a i) (bit-lt a i)

-- the results of 10 to 17 for one bit of each operand
abbrev pub logical_bits : ℕ → ℕ → List ℕ
logical_bits x y = x ∷ min x y ∷ max x y ∷ differ x y ∷ (1 - y) ∷ min x (1 - y) ∷ max x (1 - y) ∷ differ x (1 - y) ∷ []

-- code 1m on one bit of each operand
abbrev pub logical_bit : ℕ → ℕ → ℕ → ℕ
logical_bit m x y = get_or (logical_bits x y) m 0

bits-of-results : (j k i : ℕ) → k < 2 ^ 60 → i < 60 → map (λ (x : ℕ). bit x i) (logical_results j k) ≡ logical_bits (bit j i) (bit k i)
bits-of-results j k i h l =
    let c : ℕ = complement 60 k in
    rw (and-bit j k i, or-bit j k i, xor-bit j k i, and-bit j c i, or-bit j c i, xor-bit j c i, complement-bit 60 k i h l)

-- the codes 10 to 17: each bit of the result goes by the two bits at its place
pub logical-bit : (m j k i : ℕ) → k < 2 ^ 60 → i < 60 → bit (logical m j k) i ≡ logical_bit m (bit j i) (bit k i)
unfolding logical
logical-bit m j k i h l =
    sym (get_or-map (λ (x : ℕ). bit x i) (logical_results j k) m 0)
    ∙ ap₂ (λ (xs : List ℕ) (d : ℕ). get_or xs m d) (bits-of-results j k i h l) (ap (λ (x : ℕ). x % 2) (zero-div (2 ^ i)))

-- 13: a bit of A is kept where the operand's is clear
pub clear-bit : (a b i : ℕ) → b < 2 ^ 18 → i < 18 → bit (selective_clear a b) i ≡ min (bit a i) (1 - bit b i)
clear-bit a b i h l = and-bit a (complement 18 b) i ∙ ap (min (bit a i)) (complement-bit 18 b i h l)

pub logical-lt : (m j k : ℕ) → j < 2 ^ 60 → k < 2 ^ 60 → logical m j k < 2 ^ 60
unfolding logical
logical-lt m j k hj hk =
    let c : complement 60 k < 2 ^ 60 = complement-lt 60 k in
    of-get_d (λ (r : ℕ). r < 2 ^ 60) (logical_results j k) m 0
    (hj, (and_lt 60 j k hj hk, (or_lt 60 j k hj hk, (xor_lt 60 j k hj hk, (c, (and_lt 60 _ _ hj c, (or_lt 60 _ _ hj c, (xor_lt 60 _ _ hj c, tt))))))))
    (omega arith)
