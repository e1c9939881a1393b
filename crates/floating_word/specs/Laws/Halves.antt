-- Halves of a size and the size, and tests by halves.
use Rattle.std.proofs.Common.{⊎_elim, sym, ap₂, ◌∙◌, arith, lt-ltb, le-ltb}
use Rattle.std.specs.Prelude.{◌≡◌, ℕ, ◌+◌, ◌*◌, ◌/◌, ◌%◌, ◌^◌, ◌≤◌, ◌<◌, ltb}
use Rattle.base_logic.specs.Laws.Choice.{le-or-lt}
use Rattle.floating_word.specs.Halves.{whole, halves, halves_of, Cut}

-- the halves of n are the two numbers that make n, of which the lower has 48 bits
pub halves_are : {h l : ℕ} (n : ℕ) → l < 2 ^ 48 → h * 2 ^ 48 + l ≡ n → halves h l ≡ halves_of n
halves_are {h} {l} n k e =
    let eh : h ≡ n / 2 ^ 48 = omega arith in
    let el : l ≡ n % 2 ^ 48 = omega arith in
    ap₂ halves eh el

pub whole-halves : (n : ℕ) → whole (halves_of n) ≡ n
whole-halves n = omega arith

pub halves-cut : (n : ℕ) → n < 2 ^ 96 → Cut (halves_of n)
halves-cut n h = record { high_lt = omega arith; low-lt = omega arith }

-- two tests of numbers in the same order, as those of a size by its halves
pub same-order : (a b c d : ℕ) → (a < b → c < d) → (b ≤ a → d ≤ c) → ltb a b ≡ ltb c d
same-order a b c d f g =
    ⊎_elim (λ h. le-ltb a b h ∙ sym (le-ltb c d (g h))) (λ h. lt-ltb a b h ∙ sym (lt-ltb c d (f h))) (le-or-lt b a)
