-- An input is unreadable exactly where a line is found.
use Rattle.std.specs.Prelude.{Some, None, Bool, true, false, List, [], ◌∷◌, ◌≡◌, refl, ℕ, ◌+◌, length}
use Rattle.std.proofs.lemmas.Bool.{false≢true}
use Rattle.std.proofs.Common.{sym}
use Rattle.console_line.specs.Form.{line_of}
use Rattle.console_grammar.specs.Lines.{lines_of}
use Rattle.console_grammar.specs.Reading.{Reading, no_line, readable, unreadable, line_to, all_to, ended, reading_of}
use Rattle.console_reader.specs.Laws.BytesRead.{is_readable}
use Rattle.console_unreadable.specs.Rule.{rule_of}
use Rattle.console_unreadable.specs.Unreadable.{Found, line_at, last_part, here_or_later, first_unreadable, found_at_end, or_found, unreadable_in}

abbrev pub is_nothing : Found → Bool
is_nothing None = true
is_nothing (Some line) = false

-- a reading that another line may follow
abbrev pub goes_on : Reading → Bool
goes_on no_line = true
goes_on (readable part q) = true
goes_on unreadable = false

stays-unreadable : (texts : List (List ℕ)) → all_to unreadable texts ≡ unreadable
unfolding all_to line_to
stays-unreadable [] = refl
stays-unreadable (text ∷ texts) = stays-unreadable texts

exact-lines : (texts : List (List ℕ)) (n : ℕ) (x : Reading) → goes_on x ≡ true → is_nothing (first_unreadable n x texts) ≡ goes_on (all_to x texts)
unfolding first_unreadable all_to
exact-lines [] n x e = sym e
exact-lines (text ∷ texts) n x e = by-reading (line_to x (line_of text)) (exact-lines texts (n + 1) (line_to x (line_of text)))
  where
    by-reading : (y : Reading) → (goes_on y ≡ true → is_nothing (first_unreadable (n + 1) y texts) ≡ goes_on (all_to y texts))
        → is_nothing (here_or_later y (Some (line_at n (rule_of (last_part x) (line_of text)))) (first_unreadable (n + 1) y texts)) ≡ goes_on (all_to y texts)
    by-reading no_line h = h refl
    by-reading (readable part q) h = h refl
    by-reading unreadable h = rw (stays-unreadable texts)

exact-end : (f : Found) (n : ℕ) (rest : List ℕ) (x : Reading) → is_nothing f ≡ goes_on x
    → is_nothing (or_found f (found_at_end n rest x)) ≡ is_readable (ended rest x)
exact-end None n [] no_line e = refl
exact-end None n [] (readable part q) e = refl
exact-end None n [] unreadable e = absurd (false≢true (sym e))
exact-end None n (byte ∷ rest) x e = refl
exact-end (Some line) n [] no_line e = absurd (false≢true e)
exact-end (Some line) n [] (readable part q) e = absurd (false≢true e)
exact-end (Some line) n [] unreadable e = refl
exact-end (Some line) n (byte ∷ rest) x e = refl

pub found-exact : (bytes : List ℕ) → is_nothing (unreadable_in bytes) ≡ is_readable (reading_of bytes)
unfolding unreadable_in reading_of
found-exact bytes =
    exact-end (first_unreadable 1 no_line (lines_of bytes).ended) (1 + length (lines_of bytes).ended) (lines_of bytes).rest
    (all_to no_line (lines_of bytes).ended) (exact-lines (lines_of bytes).ended 1 no_line refl)
