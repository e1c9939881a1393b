-- Parts of a list that was written in one part.
use Rattle.std.specs.Prelude.{List, ◌++◌, ◌≡◌, ℕ, ◌+◌, ◌-◌, ◌≤◌, ◌<◌, length, get_or, take, drop}
use Rattle.std.proofs.Common.{⊎_elim, sym, ap, ◌∙◌, arith, length-take, length-drop, length-append, take-append-drop, length-take-le, take_at, drop_at, get_or-take, get_or-drop, get_or-append-add, ext_get_or}
use Rattle.std.proofs.Math.ListN.{get_or-append, get_or-eq_default}
use Rattle.base_logic.specs.Laws.Choice.{le-or-lt}
use Rattle.base_lists.specs.Parts.{part, splice}

module _ (m : List ℕ) (a n : ℕ) where
  pub length_part : a + n ≤ length m → length (part m a n) ≡ n
  length_part h = simp (length-take, length-drop) (omega arith)

  word-in-part : (i : ℕ) → i < n → get_or (part m a n) i 0 ≡ get_or m (a + i) 0
  word-in-part i h = get_or-take n (drop a m) i 0 h ∙ get_or-drop a m i 0

  past-part : (i : ℕ) → n ≤ i → get_or (part m a n) i 0 ≡ 0
  past-part i h = get_or-eq_default (part m a n) 0 {n = i} (simp length-take (omega arith))

  -- a bound of every word, and of 0 past the end
  pub part-lt : (B : ℕ) → ((i : ℕ) → get_or m i 0 < B) → (i : ℕ) → get_or (part m a n) i 0 < B
  part-lt B h i =
      ⊎_elim (λ g. omega (arith, past-part i g, h 0)) (λ g. rw (word-in-part i g) (h (a + i))) (le-or-lt n i)

  -- a part replaced by itself
  pub splice-part : splice m a n (part m a n) ≡ m
  splice-part = rw (take-append-drop n (drop a m)) (take-append-drop a m)

-- two parts are equal by their words
pub part_same : (m m' : List ℕ) (a n : ℕ) → length m ≡ length m' → ((i : ℕ) → a ≤ i → i < a + n → get_or m i 0 ≡ get_or m' i 0)
    → part m a n ≡ part m' a n
part_same m m' a n e h =
    ext_get_or 0 (part m a n) (part m' a n) (simp (length-take, length-drop) (rw e))
    (λ i c.
    let l : i < n = let c' = simp (length-take, length-drop) at c in omega arith in
    word-in-part m a n i l ∙ h (a + i) (omega arith) (omega arith) ∙ sym (word-in-part m' a n i l))

module _ (m : List ℕ) (a n : ℕ) (v : List ℕ) (inside : a + n ≤ length m) (long : length v ≡ n) where
  before : length (take a m) ≡ a
  before = length-take-le a m (omega arith)

  pub length-splice : length (splice m a n v) ≡ length m
  length-splice = simp (length-append, length-drop) (omega (arith, before))

  pub part-splice : part (splice m a n v) a n ≡ v
  part-splice = rw (drop_at (take a m) (v ++ drop n (drop a m)) a before) (take_at v (drop n (drop a m)) n long)

  -- of two replacements of one part the second stays
  pub splice-splice : (u : List ℕ) → splice (splice m a n v) a n u ≡ splice m a n u
  splice-splice u =
      rw (
        take_at (take a m) (v ++ drop n (drop a m)) a before,
        drop_at (take a m) (v ++ drop n (drop a m)) a before,
        drop_at v (drop n (drop a m)) n long,
      )

  pub word_below : (i : ℕ) → i < a → get_or (splice m a n v) i 0 ≡ get_or m i 0
  word_below i h =
      get_or-append (take a m) (v ++ drop n (drop a m)) 0 i (omega (arith, before)) ∙ get_or-take a m i 0 h

  pub word-inside : (i : ℕ) → i < n → get_or (splice m a n v) (a + i) 0 ≡ get_or v i 0
  word-inside i h =
      let e : a + i ≡ length (take a m) + i = omega (arith, before) in
      rw e
      (get_or-append-add (take a m) (v ++ drop n (drop a m)) i 0
      ∙ get_or-append v (drop n (drop a m)) 0 i (omega arith))

  pub word-above : (i : ℕ) → a + n ≤ i → get_or (splice m a n v) i 0 ≡ get_or m i 0
  word-above i h =
      let j = i - a - n in
      let e : i ≡ length (take a m) + (length v + j) = omega (arith, before) in
      let f : a + (n + j) ≡ i = omega arith in
      rw e
      (get_or-append-add (take a m) (v ++ drop n (drop a m)) (length v + j) 0
      ∙ get_or-append-add v (drop n (drop a m)) j 0
      ∙ get_or-drop n (drop a m) j 0
      ∙ get_or-drop a m (n + j) 0
      ∙ ap (λ (x : ℕ). get_or m x 0) (f ∙ e))

  pub splice-lt : (B : ℕ) → ((i : ℕ) → get_or m i 0 < B) → ((i : ℕ) → get_or v i 0 < B) → (i : ℕ) → get_or (splice m a n v) i 0 < B
  splice-lt B hm hv i =
      ⊎_elim
      (λ g. ⊎_elim
      (λ k. rw (word-above i k) (hm i))
      (λ k. let e : i ≡ a + (i - a) = omega arith in rw e (rw (word-inside (i - a) (omega arith)) (hv (i - a))))
      (le-or-lt (a + n) i))
      (λ g. rw (word_below i g) (hm i))
      (le-or-lt a i)
