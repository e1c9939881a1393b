-- Addresses have 12 bits, as has what goes to memory or out, and the constant dm has 18. Where an index leads.
use Rattle.std.specs.Prelude.{List, ◌≡◌, refl, ℕ, ◌+◌, ◌-◌, ◌%◌, ◌^◌, ◌≤◌, ◌<◌, eqb, ltb}
use Rattle.std.proofs.Common.{arith, ne_eqb}
use Rattle.word_arithmetic.specs.Bits.{low}
use Rattle.base_logic.specs.Laws.Choice.{of-cond}
use Rattle.peripheral_codes.specs.Addresses.{word_at, onward, second, indexed, constant, jump_target}
use Rattle.peripheral_codes.specs.Widths.{Memory}
use Rattle.peripheral_codes.specs.Laws.IndexSum.{index-lt, step_back}

modulo-lt : (n : ℕ) → n % 4096 < 2 ^ 12
modulo-lt n = omega arith

pub low-lt : (v : ℕ) → low 12 v < 2 ^ 12
low-lt v = modulo-lt v

pub onward-lt : (p k : ℕ) → onward p k < 2 ^ 12
onward-lt p k = modulo-lt (p + k)

pub jump-target-lt : (p d : ℕ) → jump_target p d < 2 ^ 12
unfolding jump_target
jump-target-lt p d =
    of-cond (λ (v : ℕ). v < 2 ^ 12) (ltb d 0o40) (λ e. modulo-lt (p + d)) (λ e. modulo-lt (p + 4096 - (0o77 - d)))

pub second_lt : (m : List ℕ) → Memory m → (p : ℕ) → second m p < 2 ^ 12
second_lt m h p = h.short.word (onward p 1)

pub indexed-lt : (m : List ℕ) → Memory m → (p d : ℕ) → indexed m p d < 2 ^ 12
unfolding indexed
indexed-lt m h p d =
    of-cond (λ (v : ℕ). v < 2 ^ 12) (eqb d 0)
    (λ e. second_lt m h p)
    (λ e. index-lt 12 (second m p) (word_at m d) (second_lt m h p) (h.short.word d))

-- "m alone for d = 0", whatever word 0 holds
pub indexed-alone : (m : List ℕ) (p : ℕ) → indexed m p 0 ≡ second m p
unfolding indexed
indexed-alone m p = refl

-- with 7776 in d an instruction reaches the word before m
pub indexed-back : (m : List ℕ) → Memory m → (p d : ℕ) → (d ≡ 0 → ⊥) → word_at m d ≡ 0o7776 → 2 ≤ second m p → indexed m p d ≡ second m p - 1
unfolding indexed
indexed-back m h p d n e l =
    rw (ne_eqb d 0 n, e) (step_back (second m p) l (omega (arith, second_lt m h p)))

pub constant-lt : (m : List ℕ) → Memory m → (p d : ℕ) → d < 64 → constant m p d < 2 ^ 18
constant-lt m h p d l = omega (arith, second_lt m h p)

-- a value of 12 bits has 18
pub wider : (v : ℕ) → v < 2 ^ 12 → v < 2 ^ 18
wider v h = omega arith
