-- Unpack and pack: bounds, and the round trip.
use Rattle.std.proofs.Common.{⊎_elim, arith, leb-false, le-leb, lt-ltb, le-ltb, lit<}
use Rattle.std.specs.Prelude.{◌≡◌, ℕ, ◌-◌, ◌/◌, ◌%◌, ◌^◌, ◌≤◌, ◌<◌, ltb}
use Rattle.std.proofs.lemmas.Bool.{lt-leb}
use Rattle.word_arithmetic.specs.Bits.{low, negative}
use Rattle.word_arithmetic.specs.Sums.{complement, magnitude}
use Rattle.base_logic.specs.Laws.Choice.{of-cond, le-or-lt}
use Rattle.word_arithmetic.specs.Laws.Sums.{complement-lt, magnitude-lt}
use Rattle.word_shift.specs.Floating.{coefficient_of, exponent_from, exponent_of, stored_from, packed}

pub coefficient-lt : (x : ℕ) → coefficient_of x < 2 ^ 60
unfolding coefficient_of
coefficient-lt x = of-cond (λ (r : ℕ). r < 2 ^ 60) (negative 60 x) (λ t. complement-lt 60 _) (λ t. omega arith)

pub exponent_lt : (x : ℕ) → x < 2 ^ 60 → exponent_of x < 2 ^ 18
unfolding exponent_of exponent_from
exponent_lt x h =
    of-cond (λ (r : ℕ). r < 2 ^ 18) (ltb (magnitude 60 x / 2 ^ 48) 0o2000) (λ t. complement-lt 18 _) (λ t. omega (arith, magnitude-lt 60 x (lit< tt) h))

pub stored-lt : (e : ℕ) → e < 2 ^ 11 → stored_from e < 2 ^ 11
unfolding stored_from
stored-lt e h = of-cond (λ (r : ℕ). r < 2 ^ 11) (negative 11 e) (λ t. omega arith) (λ t. omega (arith, leb-false (2 ^ 10) e t))

pub packed_lt : (b x : ℕ) → packed b x < 2 ^ 60
unfolding packed
packed_lt b x =
    let l : b % 2 ^ 11 < 2 ^ 11 = omega arith in
    of-cond (λ (r : ℕ). r < 2 ^ 60) (negative 60 x)
    (λ t. omega (arith, complement-lt 11 (stored_from (b % 2 ^ 11))))
    (λ t. omega (arith, stored-lt (b % 2 ^ 11) l))

-- what was stored is stored again
stored_back : (s : ℕ) → s < 2 ^ 11 → stored_from (low 11 (exponent_from s)) ≡ s
unfolding stored_from exponent_from
stored_back s h = ⊎_elim up below (le-or-lt 0o2000 s)
  where
    up : 0o2000 ≤ s → stored_from (low 11 (exponent_from s)) ≡ s
    up l = rw (le-ltb s 0o2000 l, lt-leb (2 ^ 10) ((s - 0o2000) % 2 ^ 11) (omega arith)) (omega arith)

    below : s < 0o2000 → stored_from (low 11 (exponent_from s)) ≡ s
    below l = rw (lt-ltb s 0o2000 l, le-leb (2 ^ 10) (complement 18 (0o1777 - s) % 2 ^ 11) (omega arith)) (omega arith)

-- packing what was unpacked gives the word back
pub pack-unpacked : (x : ℕ) → x < 2 ^ 60 → packed (exponent_of x) (coefficient_of x) ≡ x
unfolding packed coefficient_of exponent_of magnitude
pack-unpacked x h = ⊎_elim minus plus (le-or-lt (2 ^ 59) x)
  where
    minus : 2 ^ 59 ≤ x → packed (exponent_of x) (coefficient_of x) ≡ x
    minus l =
        rw (
          le-leb (2 ^ 59) x l,
          le-leb (2 ^ 59) (complement 60 (complement 60 x % 2 ^ 48)) (omega arith),
          stored_back (complement 60 x / 2 ^ 48) (omega arith),
        )
        (omega arith)

    plus : x < 2 ^ 59 → packed (exponent_of x) (coefficient_of x) ≡ x
    plus l = rw (lt-leb (2 ^ 59) x l, lt-leb (2 ^ 59) (x % 2 ^ 48) (omega arith), stored_back (x / 2 ^ 48) (omega arith)) (omega arith)
