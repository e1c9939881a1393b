-- What a test of every number below n says of each, and the entries of a list by its entries.
use Rattle.std.specs.Prelude.{Bool, true, false, ◌≡◌, length, get_or, set, take}
use Rattle.std.proofs.Math.Bool.{and-false}
use mathlib.Core.List.{List, [], ◌∷◌, ◌++◌}
use Rattle.std.proofs.Math.Logic.{⊎_elim}
use Rattle.std.proofs.Math.Path.{refl, ap₂}
use Rattle.std.proofs.Common.{sym, ◌∙◌, take-suc-set, take_all, ext_get_or}
use Prim.Native.Nat.{ℕ, zero, suc, ◌+◌, ◌≤◌, ◌<◌}
use Rattle.std.proofs.Math.Numerals.{add-one}
use native.Mathlib.Omega.{arith}
use Rattle.std.proofs.Math.ListN.{length-set, length-append, get_or-append}
use Rattle.std.proofs.lemmas.List.{get_or_at}
use Rattle.base_logic.specs.Laws.Choice.{le-or-lt}
use Rattle.base_logic.specs.Laws.Tests.{both}
use Rattle.base_lists.specs.Indexed.{all_below, tabulate}

module _ (test : ℕ → Bool) where
  all_more : (n : ℕ) → all_below n test ≡ true → test n ≡ true → all_below (n + 1) test ≡ true
  unfolding all_below
  all_more n h e = rw (add-one, h, e)

  pub all-at : (n : ℕ) → all_below n test ≡ true → (i : ℕ) → i < n → test i ≡ true
  unfolding all_below
  all-at zero h i l = absurd (omega arith)
  all-at (suc n) h i l =
      let s = both (all_below n test) (test n) h in
      ⊎_elim (λ g. let e : i ≡ n = omega arith in rw e s.1) (λ g. all-at n s.0 i g) (le-or-lt n i)

  pub all_of : (n : ℕ) → ((i : ℕ) → i < n → test i ≡ true) → all_below n test ≡ true
  unfolding all_below
  all_of zero h = refl
  all_of (suc n) h = rw (all_of n (λ i l. h i (omega arith)), h n (omega arith))

  -- one number of which it does not hold
  all-not : (n i : ℕ) → i < n → test i ≡ false → all_below n test ≡ false
  unfolding all_below
  all-not zero i l e = absurd (omega arith)
  all-not (suc n) i l e =
      ⊎_elim
      (λ g. let s : n ≡ i = omega arith in rw (s, e) (and-false (all_below i test)))
      (λ g. rw (all-not n i g e))
      (le-or-lt n i)

-- a loop that tests every number below n, and leaves at the first that fails: the first i of n have passed
pub record Passed (test : ℕ → Bool) (n i : ℕ) : Type 0 where
  pub most : i ≤ n
  pub passed : all_below i test ≡ true

module _ (test : ℕ → Bool) (n : ℕ) where
  pub none_yet : Passed test n 0
  unfolding all_below
  none_yet = record { most = omega arith; passed = refl }

  pub one_more : (i : ℕ) → Passed test n i → i < n → test i ≡ true → Passed test n (i + 1)
  one_more i p l e = record { most = omega arith; passed = all_more test i p.passed e }

  pub all-passed : (i : ℕ) → Passed test n i → n ≤ i → true ≡ all_below n test
  all-passed i p l = let e : i ≡ n = omega arith in sym (rw e at p.passed)

  pub one-fails : (i : ℕ) → i < n → test i ≡ false → false ≡ all_below n test
  one-fails i l e = sym (all-not test n i l e)

module _ {A : Type 0} (entry : ℕ → A) where
  pub length-tabulate : (n : ℕ) → length (tabulate n entry) ≡ n
  unfolding tabulate
  length-tabulate zero = refl
  length-tabulate (suc n) = let h = length-tabulate n in length-append (tabulate n entry) (entry n ∷ []) ∙ omega arith

  pub get_d_tabulate : (d : A) (n i : ℕ) → i < n → get_or (tabulate n entry) i d ≡ entry i
  unfolding tabulate
  get_d_tabulate d zero i l = absurd (omega arith)
  get_d_tabulate d (suc n) i l =
      ⊎_elim
      (λ g. let e : i ≡ n = omega arith in rw e (get_or_at (tabulate n entry) (entry n) [] d n (length-tabulate n)))
      (λ g. get_or-append (tabulate n entry) (entry n ∷ []) d i (omega (arith, length-tabulate n)) ∙ get_d_tabulate d n i g)
      (le-or-lt n i)

  -- a list that has these entries
  pub tabulate-of : (d : A) (n : ℕ) (l : List A) → length l ≡ n → ((i : ℕ) → i < n → entry i ≡ get_or l i d) → tabulate n entry ≡ l
  tabulate-of d n l e h =
      let t = length-tabulate n in
      ext_get_or d (tabulate n entry) l (t ∙ sym e) (λ i g. get_d_tabulate d n i (omega (arith, t)) ∙ h i (omega (arith, t)))

-- a list by its own entries
pub tabulate-own : {A : Type 0} (d : A) (n : ℕ) (l : List A) → length l ≡ n → tabulate n (λ i. get_or l i d) ≡ l
tabulate-own d n l e = tabulate-of (λ i. get_or l i d) d n l e (λ i h. refl)

-- a loop that stores entry i at i: the first i of n are stored
pub record Tabulated {A : Type 0} (entry : ℕ → A) (n : ℕ) (l : List A) (i : ℕ) : Type 0 where
  pub most : i ≤ n
  pub size : length l ≡ n
  pub first : take i l ≡ tabulate i entry

module _ {A : Type 0} {entry : ℕ → A} {n : ℕ} where
  pub none-tabulated : {l : List A} → length l ≡ n → Tabulated entry n l 0
  unfolding tabulate
  none-tabulated e = record { most = omega arith; size = e; first = refl }

  pub one-tabulated : {l : List A} {i : ℕ} {v : A} → Tabulated entry n l i → i < n → v ≡ entry i → Tabulated entry n (set l i v) (i + 1)
  unfolding tabulate
  one-tabulated {l} {i} {v} g h e =
      record {
        most = omega arith;
        size = length-set l i v ∙ g.size;
        first =
            rw add-one
            (take-suc-set l i v (omega (arith, g.size)) ∙ ap₂ (λ (t : List A) (x : A). t ++ (x ∷ [])) g.first e);
      }

  pub all-tabulated : {l : List A} {i : ℕ} → Tabulated entry n l i → n ≤ i → l ≡ tabulate n entry
  all-tabulated {l} {i} g h =
      let e : i ≡ n = omega (arith, g.most) in sym (take_all n l (omega (arith, g.size))) ∙ rw e at g.first
