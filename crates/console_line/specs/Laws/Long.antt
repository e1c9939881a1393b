-- No form is longer than 25 bytes, so the first 32 bytes of a line say what the line says.
use Rattle.std.specs.Prelude.{Option, Some, None, List, ◌≡◌, refl, ℕ, ◌+◌, ◌≤◌, ◌<◌, eqb, length, take, drop}
use Rattle.std.proofs.Common.{⊎_elim, sym, ap, ◌∙◌, arith, length-drop, take_all, length-take-le}
use Rattle.base_logic.specs.Laws.Choice.{of-cond, le-or-lt}
use Rattle.console_line.specs.Form.{number, begins, comma, one, two, stint, line_of}
use Rattle.console_text.specs.Names.{words_is, at_is, word_is, job_is, stint_is}
use Rattle.console_line.specs.Laws.Text.{comma-le}
use Rattle.console_line.specs.Laws.Value.{word-not, number-long}
use Rattle.console_line.specs.declared.form.Line.{Line}
use Rattle.console_line.specs.declared.form.Line.TheVariants.{Words, At, Job}

abbrev IsUnreadable : Option Line → Type 0
IsUnreadable line = line ≡ None

number-after : (f : ℕ → Line) (k : ℕ) (text : List ℕ) → 6 + k < length text → one f (number (drop k text)) ≡ None
number-after f k text h = rw (number-long (drop k text) (simp length-drop (omega arith)))

two-not : (job : Option ℕ) → two job None ≡ None
two-not (Some v) = refl
two-not None = refl

-- of a number before the comma and one after it, one is too long
long-parts : (text : List ℕ) → 13 < length text
    → two (number (take (comma text) text)) (number (drop (comma text + 1) text)) ≡ None
long-parts text h =
    ⊎_elim
    (λ (k : comma text ≤ 6).
    rw (number-long (drop (comma text + 1) text) (simp length-drop (omega arith))) (two-not (number (take (comma text) text))))
    (λ (k : 6 < comma text).
    rw (number-long (take (comma text) text) (rw (length-take-le (comma text) text (comma-le text)) k)))
    (le-or-lt (comma text) 6)

long-stint : (text : List ℕ) → 13 < length text → stint text ≡ None
unfolding stint
long-stint text h = of-cond IsUnreadable (eqb (comma text) (length text)) (λ _. refl) (λ _. long-parts text h)

-- the longest form is a word, of 5 and 20 bytes
pub too_long : (text : List ℕ) → 25 < length text → line_of text ≡ None
unfolding line_of
too_long text h =
    of-cond IsUnreadable (begins words_is text) (λ _. number-after Words 6 text (omega arith))
    (λ _. of-cond IsUnreadable (begins at_is text) (λ _. number-after At 3 text (omega arith))
    (λ _. of-cond IsUnreadable (begins word_is text) (λ _. rw (word-not (drop 5 text) (simp length-drop (λ e. omega arith))))
    (λ _. of-cond IsUnreadable (begins job_is text) (λ _. number-after Job 4 text (omega arith))
    (λ _. of-cond IsUnreadable (begins stint_is text) (λ _. long-stint (drop 6 text) (simp length-drop (omega arith))) (λ _. refl)))))

pub cut : (text : List ℕ) → line_of (take 32 text) ≡ line_of text
cut text =
    ⊎_elim (λ h. ap line_of (take_all 32 text h))
    (λ h. too_long (take 32 text) (rw (length-take-le 32 text (omega arith)) (omega arith)) ∙ sym (too_long text (omega arith)))
    (le-or-lt (length text) 32)
