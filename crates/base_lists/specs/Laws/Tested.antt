-- What `all` answers over a list or over the numbers below n, and what `from_fn` makes, in the words of `Indexed`.
use Rattle.std.specs.Prelude.{Bool, true, ◌&&◌, List, [], ◌∷◌, ◌++◌, ◌≡◌, refl, ℕ, zero, suc, ◌+◌, ◌≤◌, ◌<◌, length, get_or, take, slice_index_or}
use Rattle.std.proofs.Common.{sym, ap, ap₂, ◌∙◌, arith, take_all}
use Rattle.std.proofs.Math.Seq.{take-suc}
use Rattle.std.proofs.Math.Logic.{⊎_elim}
use Rattle.std.specs.List.{list_all, range_with_len}
use Rattle.std.proofs.lemmas.List.Folds.{list_all-append}
use Rattle.std.specs.Fn.{Mut, Called}
use Rattle.std.specs.Array.{IsFromFnResultFrom, IsFromFnResult}
use Rattle.base_logic.specs.Laws.Choice.{le-or-lt}
use Rattle.base_lists.specs.Indexed.{all_below, tabulate}
use Rattle.base_lists.specs.Laws.Indexed.{tabulate-of}

and-true : (b : Bool) → (b && true) ≡ b
and-true b = elim b as (λ x. (x && true) ≡ x) [ true ↦ refl | _ ↦ refl ]

range-more : (a n : ℕ) → range_with_len a (suc n) ≡ range_with_len a n ++ ((a + n) ∷ [])
range-more a zero = ap (λ (x : ℕ). x ∷ []) (omega arith)
range-more a (suc n) =
    let e : (a + 1) + n ≡ a + suc n = omega arith in ap (λ (l : List ℕ). a ∷ l) (range-more (a + 1) n ∙ ap (λ (x : ℕ). range_with_len (a + 1) n ++ (x ∷ [])) e)

-- `all` over 0..n
pub all-range : (test : ℕ → Bool) (n : ℕ) → list_all test (range_with_len 0 n) ≡ all_below n test
unfolding all_below
all-range test zero = refl
all-range test (suc n) =
    let e : 0 + n ≡ n = omega arith in
    ap (list_all test) (range-more 0 n ∙ ap (λ (x : ℕ). range_with_len 0 n ++ (x ∷ [])) e)
    ∙ list_all-append test (range_with_len 0 n) (n ∷ [])
    ∙ ap₂ (λ (b c : Bool). b && c) (all-range test n) (and-true (test n))

-- `all` over a list
module _ {A : Type 0} (test : A → Bool) (d : A) (l : List A) where
  all-taken : (n : ℕ) → n ≤ length l → list_all test (take n l) ≡ all_below n (λ i. test (get_or l i d))
  unfolding all_below
  all-taken zero h = refl
  all-taken (suc n) h =
      ap (list_all test) (take-suc l n d (omega arith))
      ∙ list_all-append test (take n l) (get_or l n d ∷ [])
      ∙ ap₂ (λ (b c : Bool). b && c) (all-taken n (omega arith)) (and-true (test (get_or l n d)))

  pub all-listed : (n : ℕ) → length l ≡ n → list_all test l ≡ all_below n (λ i. test (get_or l i d))
  all-listed n e = ap (list_all test) (sym (take_all n l (omega arith))) ∙ all-taken n (omega arith)

-- an array that `from_fn` makes, where each call gives the entry of its index and leaves what the closure has
module _ {F A : Type 0} (g : Mut F (ℕ × Unit {0}) A) (entry : ℕ → A) (Keeps : F → Type 0)
    (gives : (p q : F) (i : ℕ) (y : A) → Keeps p → Called g p (i, tt) y q → Keeps q × (y ≡ entry i)) where
  made-from : (ys : List A) (f : F) (i n : ℕ) → Keeps f → IsFromFnResultFrom g f ys i n → (d : A) (k : ℕ) → i ≤ k → k < i + n
      → entry k ≡ slice_index_or ys k d
  made-from ys f i zero h e d k l m = absurd (omega arith)
  made-from ys f i (suc n) h (q, y, is, call, rest) d k l m =
      let s = gives f q i y h call in
      ⊎_elim
      (λ z. let j : k ≡ i = omega arith in rw (j, is.1 d) (sym s.1))
      (λ z. made-from ys q (i + 1) n s.0 rest d k (omega arith) (omega arith))
      (le-or-lt k i)

  pub made-tabulated : (ys : List A) (f : F) (n : ℕ) → A → Keeps f → IsFromFnResult g f ys n → ys ≡ tabulate n entry
  made-tabulated ys f n d h e =
      sym (tabulate-of entry d n ys e.long (λ k l. made-from ys f 0 n h e.each d k (omega arith) (omega arith)))
