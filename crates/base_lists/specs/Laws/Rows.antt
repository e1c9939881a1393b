-- Numbers stored row by row.
use Rattle.std.specs.Prelude.{List, ◌≡◌, refl, ℕ, zero, suc, ◌+◌, ◌*◌, ◌≤◌, ◌<◌, length}
use Rattle.std.proofs.Common.{append-nil, ap, ◌∙◌, length-append}
use Rattle.std.proofs.Math.Numerals.{add-one}
use native.Mathlib.Omega.{arith}
use Rattle.std.proofs.lemmas.List.Edits.{sets-eq}
use Rattle.std.proofs.Math.Seq.{length-sets, drop-length}
use Rattle.base_lists.specs.Rows.{rows}
use Rattle.base_lists.specs.Written.{Stores, Wrote}
use Rattle.base_lists.specs.Laws.Written.{wrote_then, length-wrote}

-- stores change no length
pub stored-length : {l m vs : List ℕ} {at : ℕ} → Stores l at vs m → length m ≡ length l
stored-length {l} {vs = vs} {at = at} e = ap length e.is ∙ length-sets l at vs

-- stores that fill the whole list
pub stored-whole : {l m vs : List ℕ} → Stores l 0 vs m → length l ≡ length vs → m ≡ vs
stored-whole {l} {vs = vs} e h =
    let n : 0 + length vs ≡ length l = omega arith in
    e.is ∙ sets-eq vs l 0 (omega arith) ∙ rw (n, drop-length) (append-nil vs)

-- a piece that is stored after another
pub stored-piece : {l m vs : List ℕ} {at next : ℕ} → Stores l at vs m → next ≡ at + length vs → Wrote l at vs m next
stored-piece e h = record { is = e.is; ends = h }

pub length-rows : (w : ℕ) (row : ℕ → List ℕ) → ((i : ℕ) → length (row i) ≡ w) → (n : ℕ) → length (rows n row) ≡ w * n
unfolding rows
length-rows w row h zero = omega arith
length-rows w row h (suc n) =
    let k = length-rows w row h n in length-append (rows n row) (row n) ∙ omega (arith, h n)

-- the first i of n rows, of w numbers each, are stored from `at` on
pub record RowsStored (at w : ℕ) (row : ℕ → List ℕ) (n : ℕ) (before l : List ℕ) (i : ℕ) : Type 0 where
  pub most : i ≤ n
  pub wrote : Wrote before at (rows i row) l (at + w * i)

module _ {at w : ℕ} {row : ℕ → List ℕ} {n : ℕ} where
  pub no-row-stored : {l : List ℕ} → RowsStored at w row n l l 0
  unfolding rows
  no-row-stored = record { most = omega arith; wrote = record { is = refl; ends = omega arith } }

  pub length-stored : {before l : List ℕ} {i : ℕ} → RowsStored at w row n before l i → length l ≡ length before
  length-stored g = length-wrote g.wrote

  pub one-row-stored : {before l after : List ℕ} {i : ℕ} → ((j : ℕ) → length (row j) ≡ w) → RowsStored at w row n before l i → i < n
      → Stores l (at + w * i) (row i) after → RowsStored at w row n before after (i + 1)
  unfolding rows
  one-row-stored {i = i} h g k e =
      record { most = omega arith; wrote = rw add-one (wrote_then g.wrote (stored-piece e (omega (arith, h i)))) }

  pub all-rows-stored : {before l : List ℕ} {i : ℕ} → RowsStored at w row n before l i → n ≤ i → Stores before at (rows n row) l
  all-rows-stored {i = i} g k = let e : n ≡ i = omega (arith, g.most) in record { is = rw e g.wrote.is }
