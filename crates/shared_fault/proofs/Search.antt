-- What the first number of which a test does not hold is, and the loop that finds it.
use Rattle.std.specs.Prelude.{Bool, true, false, ◌&&◌, List, leb, length, get_or, Option, Some, None, unwrap_or, MatchOption}
use Rattle.std.proofs.Common.{⊎_elim, sym}
use Rattle.std.proofs.Math.Path.{◌≡◌, refl}
use Rattle.std.specs.List.{AllWithin, HoldsAt}
use Prim.Native.Nat.{ℕ, zero, suc, ◌≤◌, ◌<◌}
use native.Mathlib.Omega.{arith}
use Rattle.std.proofs.Math.Dec.{leb-suc-suc}
use Rattle.base_logic.specs.Laws.Choice.{le-or-lt}
use Rattle.base_lists.specs.Indexed.{all_below}
use Rattle.base_lists.specs.Laws.Indexed.{all-at, all_of, one-fails}
use Rattle.central_record.specs.Record.{below}
use Rattle.shared_fault.specs.Search.{first_failing}

-- the test does not hold of i, which is below n, and holds of every number before it
pub record First (test : ℕ → Bool) (n i : ℕ) : Type 0 where
  pub in-range : i < n
  pub fails : test i ≡ false
  pub earlier : (k : ℕ) → k < i → test k ≡ true

module _ (test : ℕ → Bool) where
  all_hold : (n : ℕ) → all_below n test ≡ true → first_failing n test ≡ n
  unfolding first_failing
  all_hold zero h = refl
  all_hold (suc n) h = rw h

  -- one number of which it does not hold, after numbers of which it holds
  is-first : (n i : ℕ) → i < n → all_below i test ≡ true → test i ≡ false → first_failing n test ≡ i
  unfolding first_failing
  is-first zero i l h e = absurd (omega arith)
  is-first (suc n) i l h e =
      rw (sym (one-fails test (suc n) i l e))
      (⊎_elim (λ g. let s : n ≡ i = omega arith in rw s (all_hold i h)) (λ g. is-first n i g h e) (le-or-lt n i))

  first_next : (n : ℕ) → (all_below n test && test n) ≡ false → (all_below n test ≡ false → First test n (first_failing n test))
      → (t : Bool) → all_below n test ≡ t → First test (suc n) (first_failing n test)
  first_next n e sooner true h =
      rw (all_hold n h) (record { in-range = omega arith; fails = rw h at e; earlier = all-at test n h })
  first_next n e sooner false h =
      let f = sooner h in
      record { in-range = omega (arith, f.in-range); fails = f.fails; earlier = f.earlier }

  -- the first that fails, where not all hold
  pub first-failing : (n : ℕ) → all_below n test ≡ false → First test n (first_failing n test)
  unfolding all_below first_failing
  first-failing zero e = let z : ◌≡◌ {A = ℕ} 0 1 = cc in absurd (omega arith)
  first-failing (suc n) e = rw e (first_next n e (first-failing n) (all_below n test) refl)

-- what a search of the numbers below n finds, or n
pub found-first : (test : ℕ → Bool) (n : ℕ) (r : Option ℕ)
    → MatchOption r ((k : ℕ) → 0 ≤ k → k < n → test k ≡ true) (λ i. (0 ≤ i) × (i < n) × (test i ≡ false) × ((k : ℕ) → 0 ≤ k → k < i → test k ≡ true))
    → unwrap_or r n ≡ first_failing n test
found-first test n None h = sym (all_hold test n (all_of test n (λ k l. h k (omega arith) l)))
found-first test n (Some i) h = sym (is-first test n i h.1 (all_of test i (λ k l. h.3 k (omega arith) l)) h.2)

-- below the next number is at most the number
pub first-below-suc : (n : ℕ) (m : List ℕ) → first_failing (length m) (below (suc n) m) ≡ first_failing (length m) (λ i. leb (get_or m i 0) n)
first-below-suc n m = λ j. first_failing (length m) (λ i. leb-suc-suc (get_or m i 0) n j)

-- the place that a search of a list finds, or the list's length
pub found-position : (test : ℕ → Bool) (xs : List ℕ) (r : Option ℕ)
    → MatchOption r (AllWithin (λ x. test x ≡ true) xs 0 (length xs)) (λ i. (i < length xs) × HoldsAt (λ x. test x ≡ false) xs i × AllWithin (λ x. test x ≡ true) xs 0 i)
    → unwrap_or r (length xs) ≡ first_failing (length xs) (λ i. test (get_or xs i 0))
found-position test xs None h =
    let t = λ (i : ℕ). test (get_or xs i 0) in
    sym (all_hold t (length xs) (all_of t (length xs) (λ k l. h k 0 (omega arith) l)))
found-position test xs (Some i) h =
    let t = λ (i : ℕ). test (get_or xs i 0) in
    sym (is-first t (length xs) i h.0 (all_of t i (λ k l. h.2 k 0 (omega arith) l)) (h.1 0))
