-- A name at the start of a text and the first comma.
use Rattle.std.specs.Prelude.{Bool, true, false, ◌&&◌, not, cond, Some, None, position, List, [], ◌∷◌, ◌++◌, ◌≡◌, refl, eqb, ltb, length, take, drop}
use Rattle.std.specs.List.{position_or_len}
use Rattle.std.specs.Cmp.Lexicographic.{pointwise}
use Rattle.std.proofs.lemmas.Bool.{false≢true}
use Rattle.std.proofs.lemmas.Option.{cond_some}
use Rattle.std.proofs.Common.{ap, ◌∙◌, length-append}
use Prim.Native.Nat.{ℕ, suc, ◌+◌, ◌≤◌, ◌<◌}
use native.Mathlib.Omega.{arith}
use borrow.Author.Tests.{eqb-true, ltb-true, ltb-false}
use Rattle.base_logic.specs.Laws.Choice.{of-cond}
use Rattle.console_line.specs.Form.{begins, comma}

and-cond : (t : Bool) {u v : Bool} → u ≡ v → (t && u) ≡ cond t v false
and-cond true e = e
and-cond false e = refl

-- what `strip_prefix` tests
pub begins-tested : (name text : List ℕ) → pointwise eqb (take (length name) text) name ≡ begins name text
unfolding begins
begins-tested [] text = refl
begins-tested (a ∷ name) [] = refl
begins-tested (a ∷ name) (b ∷ text) = and-cond (eqb b a) (begins-tested name text)

-- a text that begins with a name is the name and the rest
pub begins-is : (name text : List ℕ) → begins name text ≡ true → text ≡ name ++ drop (length name) text
unfolding begins
begins-is [] text e = refl
begins-is (a ∷ name) [] e = absurd (false≢true e)
begins-is (a ∷ name) (b ∷ text) e =
    of-cond (λ (t : Bool). t ≡ true → b ∷ text ≡ a ∷ name ++ drop (length name) text) (eqb b a)
    (λ t f. ap (λ (c : ℕ). c ∷ text) (eqb-true b a t) ∙ ap (λ (l : List ℕ). a ∷ l) (begins-is name text f))
    (λ t f. absurd (false≢true f)) e

pub begins-length : (name text : List ℕ) → begins name text ≡ true → length name ≤ length text
begins-length name text e =
    let rest = drop (length name) text in
    omega (arith, ap length (begins-is name text e) ∙ length-append name rest)

pub comma-le : (text : List ℕ) → comma text ≤ length text
unfolding comma
comma-le [] = omega arith
comma-le (b ∷ text) =
    let h = comma-le text in
    of-cond (λ (n : ℕ). n ≤ suc (length text)) (eqb b 44) (λ _. omega arith) (λ _. omega arith)

next-place : (t : Bool) {k m : ℕ} → k ≡ m → cond (not t) (1 + k) 0 ≡ cond t 0 (suc m)
next-place true e = refl
next-place false e = omega (arith, e)

comma-position : (text : List ℕ) → position_or_len (λ b. eqb b 44) text ≡ comma text
unfolding comma
comma-position [] = refl
comma-position (b ∷ text) = next-place (eqb b 44) (comma-position text)

none-chosen : (t : Bool) (k : ℕ) → cond t (Some k) None ≡ None → t ≡ false
none-chosen true k e = cc
none-chosen false k e = refl

-- where `position` finds the first comma
pub comma_found : (text : List ℕ) {k : ℕ} → position (λ b. eqb b 44) text ≡ Some k → (k ≡ comma text) × (k < length text)
comma_found text {k} e =
    let c = position_or_len (λ b. eqb b 44) text in
    let d = cond_some (ltb c (length text)) c k e in
    let at : c ≡ comma text = comma-position text in
    (omega (arith, d.1, at), omega (arith, d.1, ltb-true c (length text) d.0))

pub comma_none : (text : List ℕ) → position (λ b. eqb b 44) text ≡ None → comma text ≡ length text
comma_none text e =
    let c = position_or_len (λ b. eqb b 44) text in
    let at : c ≡ comma text = comma-position text in
    omega (arith, at, comma-le text, ltb-false c (length text) (none-chosen (ltb c (length text)) c e))

-- a text with a comma is what stands before the first, the comma, and the rest
pub comma-is : (text : List ℕ) → (comma text ≡ length text → ⊥) → text ≡ take (comma text) text ++ (44 ∷ drop (suc (comma text)) text)
unfolding comma
comma-is [] h = absurd (h refl)
comma-is (b ∷ text) h =
    of-cond (λ (k : ℕ). (k ≡ suc (length text) → ⊥) → b ∷ text ≡ take k (b ∷ text) ++ (44 ∷ drop (suc k) (b ∷ text))) (eqb b 44)
    (λ t _. rw (eqb-true b 44 t))
    (λ t g. ap (λ (l : List ℕ). b ∷ l) (comma-is text (λ e. g (ap suc e)))) h
