-- The width of every word, tested in one pass: the words' logical sum has it exactly where each of them has.
use Rattle.std.specs.Prelude.{Bool, ◌&&◌, List, [], ◌∷◌, ◌≡◌, refl, ℕ, ◌^◌, ◌<◌, ltb, length}
use Rattle.std.proofs.Common.{sym, ap, ◌∙◌}
use borrow.Author.Tests.{lt-ltb}
use Rattle.std.specs.Int.Bits.{bit_or}
use Rattle.std.specs.List.{fold, list_all}
use Rattle.std.proofs.Math.Bool.{and_assoc, and-true}
use Rattle.word_arithmetic.specs.Laws.Logic.{or-width}
use Rattle.base_lists.specs.Indexed.{all_below}
use Rattle.base_lists.specs.Laws.Tested.{all-listed}
use Rattle.central_record.specs.Record.{below}

module _ (k : ℕ) where
  joined : (all : ℕ) (m : List ℕ) → ltb (fold bit_or all m) (2 ^ k) ≡ (ltb all (2 ^ k) && list_all (λ w. ltb w (2 ^ k)) m)
  joined all [] = sym (and-true _)
  joined all (w ∷ m) =
      joined (bit_or all w) m
      ∙ ap (λ (b : Bool). b && list_all (λ w. ltb w (2 ^ k)) m) (or-width k all w)
      ∙ and_assoc (ltb all (2 ^ k)) (ltb w (2 ^ k)) (list_all (λ w. ltb w (2 ^ k)) m)

  pub all-joined : (m : List ℕ) → 0 < 2 ^ k → ltb (fold bit_or 0 m) (2 ^ k) ≡ all_below (length m) (below (2 ^ k) m)
  all-joined m h =
      joined 0 m
      ∙ rw (lt-ltb 0 (2 ^ k) h) (all-listed (λ w. ltb w (2 ^ k)) 0 m (length m) refl)
