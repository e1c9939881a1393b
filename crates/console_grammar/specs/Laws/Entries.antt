-- Lists of which the first entries are kept.
use Rattle.std.specs.Prelude.{List, [], ◌∷◌, ◌++◌, ◌≡◌, ℕ, ◌+◌, ◌≤◌, ◌<◌, length, take, set}
use Rattle.std.proofs.Common.{sym, ◌∙◌, add-one, arith, length-append, length-take, take_all, take-suc-set, length-take-le}
use Rattle.std.proofs.Math.Nat.{min-le_left}
use Rattle.std.proofs.lemmas.List.{take-append-le}

-- lists of which the first k entries are kept
pub take-kept : (n k : ℕ) (l : List ℕ) → n ≤ k → take k (take n l) ≡ take n l
take-kept n k l h = take_all k (take n l) (rw (length-take n l) (omega (arith, min-le_left n (length l))))

pub entry-added : (n k : ℕ) (l : List ℕ) (a : ℕ) → length l ≡ k → n < k → take (n + 1) (set l n a) ≡ take k (take n l ++ (a ∷ []))
entry-added n k l a e h =
    let i : n < length l = omega arith in
    let f : length (take n l ++ (a ∷ [])) ≤ k = simp length-append (omega (arith, length-take-le n l (omega arith))) in
    rw (add-one, take-suc-set l n a i) (sym (take_all k (take n l ++ (a ∷ [])) f))

pub entries-full : (n k : ℕ) (l : List ℕ) (a : ℕ) → length l ≡ k → n ≡ k → take n l ≡ take k (take n l ++ (a ∷ []))
entries-full n k l a e f =
    let i : length (take n l) ≡ k = length-take-le n l (omega arith) ∙ f in
    sym (take-append-le k (take n l) (a ∷ []) (omega arith) ∙ take_all k (take n l) (omega arith))
