-- The lines of an input: what cutting it at its line feeds means.
use Rattle.std.specs.Prelude.{List, [], ◌∷◌, ◌++◌, ◌≡◌, ℕ, eqb}
use Rattle.std.proofs.Common.{append_assoc, append-nil, sym, ◌∙◌, eqb-true}
use Rattle.std.proofs.lemmas.Bool.{eqb-false}
use Rattle.base_logic.specs.Laws.Choice.{of-cond}
use Rattle.base_lists.specs.Laws.Each.{Each}
use Rattle.console_grammar.specs.Lines.{Lines, lines_after}

-- lines, each followed by a line feed, then the rest
abbrev pub lines_joined : List (List ℕ) → List ℕ → List ℕ
lines_joined [] rest = rest
lines_joined (line ∷ ended) rest = line ++ (10 ∷ lines_joined ended rest)

abbrev pub joined_lines : Lines → List ℕ
joined_lines l = lines_joined l.ended l.rest

-- the ended lines and the rest are the bytes
pub lines-joined : (begun bytes : List ℕ) → joined_lines (lines_after begun bytes) ≡ begun ++ bytes
unfolding lines_after
lines-joined begun [] = sym (append-nil begun)
lines-joined begun (byte ∷ bytes) =
    of-cond (λ (l : Lines). joined_lines l ≡ begun ++ (byte ∷ bytes)) (eqb byte 10)
    (λ e. rw (lines-joined [] bytes, eqb-true byte 10 e))
    (λ e. lines-joined (begun ++ (byte ∷ [])) bytes ∙ append_assoc begun (byte ∷ []) bytes)

-- no byte of a line is a line feed
abbrev pub Plain : List ℕ → Type 0
Plain line = Each (λ (byte : ℕ). byte ≡ 10 → ⊥) line

abbrev pub PlainLines : Lines → Type 0
PlainLines l = Each Plain l.ended × Plain l.rest

plain_more : (line : List ℕ) (byte : ℕ) → Plain line → (byte ≡ 10 → ⊥) → Plain (line ++ (byte ∷ []))
plain_more [] byte h other = (other, tt)
plain_more (first ∷ line) byte h other = (h.0, plain_more line byte h.1 other)

-- no ended line and no rest holds a line feed
pub lines-plain : (begun bytes : List ℕ) → Plain begun → PlainLines (lines_after begun bytes)
unfolding lines_after
lines-plain begun [] h = (tt, h)
lines-plain begun (byte ∷ bytes) h =
    of-cond PlainLines (eqb byte 10)
    (λ e. ((h, (lines-plain [] bytes tt).0), (lines-plain [] bytes tt).1))
    (λ e. lines-plain (begun ++ (byte ∷ [])) bytes (plain_more begun byte h (eqb-false byte 10 e)))
