-- A register that is set keeps the widths of all, their count, and B0.
use Rattle.std.specs.Prelude.{List, [], ◌∷◌, ◌≡◌, ℕ, zero, suc, ◌+◌, ◌^◌, ◌<◌, eqb, get_or, set}
use Rattle.std.proofs.Common.{◌∙◌, arith, length-set, get_or-set_other}
use Rattle.std.proofs.lemmas.Bool.{eqb-false}
use Rattle.base_logic.specs.Laws.Choice.{of-cond}
use Rattle.central_registers.specs.Registers.{set_b, set_x}
use Rattle.central_registers.specs.Widths.{Wide}

-- what a stored value has, and what was there, the list has after the store
pub set-has : (P : ℕ → Type 0) (l : List ℕ) (i j v : ℕ) → P v → P (get_or l j 0) → P (get_or (set l i v) j 0)
set-has P [] i j v p q = q
set-has P (x ∷ l) zero zero v p q = p
set-has P (x ∷ l) zero (suc j) v p q = q
set-has P (x ∷ l) (suc i) zero v p q = q
set-has P (x ∷ l) (suc i) (suc j) v p q = set-has P l i j v p q

-- a register of 18 bits other than B0, and an X register
pub short-set : (r : List ℕ) (i v : ℕ) → (8 ≡ i → ⊥) → v < 2 ^ 18 → Wide r → Wide (set r i v)
short-set r i v n h w =
    record {
      count = length-set r i v ∙ w.count;
      short = λ j l. set-has (λ (x : ℕ). x < 2 ^ 18) r i j v h (w.short j l);
      long = λ j. set-has (λ (x : ℕ). x < 2 ^ 60) r i j v (omega arith) (w.long j);
      b0 = get_or-set_other r i 8 v 0 n ∙ w.b0;
    }

pub x-set : (r : List ℕ) (i v : ℕ) → v < 2 ^ 60 → Wide r → Wide (set_x r i v)
x-set r i v h w =
    record {
      count = length-set r (16 + i) v ∙ w.count;
      short = λ j l. rw (get_or-set_other r (16 + i) j v 0 (λ e. omega arith)) (w.short j l);
      long = λ j. set-has (λ (x : ℕ). x < 2 ^ 60) r (16 + i) j v h (w.long j);
      b0 = get_or-set_other r (16 + i) 8 v 0 (λ e. omega arith) ∙ w.b0;
    }

pub b-set : (r : List ℕ) (i v : ℕ) → v < 2 ^ 18 → Wide r → Wide (set_b r i v)
unfolding set_b
b-set r i v h w =
    of-cond Wide (eqb i 0) (λ e. w) (λ e. short-set r (8 + i) v (λ z. eqb-false i 0 e (omega arith)) h w)
