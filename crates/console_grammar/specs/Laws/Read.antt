-- What was read to the end: no line of it was unreadable, and each test let it pass.
use Rattle.std.specs.Prelude.{Option}
use Rattle.std.specs.Prelude.{Bool, true, false, ◌&&◌, cond, ◌≡◌, refl, ℕ}
use mathlib.Core.List.{List, [], ◌∷◌}
use native.Mathlib.Omega.{arith}
use Rattle.console_line.specs.declared.form.Line.{Line}
use Rattle.console_grammar.specs.Reading.{Request, Part, Reading, no_line, readable, unreadable, line_to}
use Rattle.console_grammar.specs.Laws.Follow.{all_lines}

pub no_line-unread : {part : Part} {q : Request} → no_line ≡ readable part q → ⊥
no_line-unread e = let z : ◌≡◌ {A = ℕ} 0 1 = cc in omega arith

pub unreadable-unread : {part : Part} {q : Request} → unreadable ≡ readable part q → ⊥
unreadable-unread e = let z : ◌≡◌ {A = ℕ} 0 1 = cc in omega arith

-- after an unreadable line the others do not count
pub still-unreadable : (ls : List (Option Line)) {part : Part} {q : Request} → all_lines unreadable ls ≡ readable part q → ⊥
unfolding all_lines line_to
still-unreadable [] e = unreadable-unread e
still-unreadable (line ∷ ls) e = still-unreadable ls e

-- what a test let pass has passed it
pub passed : (t : Bool) (r : Reading) (ls : List (Option Line)) {part : Part} {q : Request} {A : Type 0}
    → (t ≡ true → all_lines r ls ≡ readable part q → A) → all_lines (cond t r unreadable) ls ≡ readable part q → A
passed true r ls f e = f refl e
passed false r ls f e = absurd (still-unreadable ls e)

pub passed-both : (s t : Bool) (r : Reading) (ls : List (Option Line)) {part : Part} {q : Request} {A : Type 0}
    → (s ≡ true → t ≡ true → all_lines r ls ≡ readable part q → A) → all_lines (cond (s && t) r unreadable) ls ≡ readable part q → A
passed-both true t r ls f e = passed t r ls (f refl) e
passed-both false t r ls f e = absurd (still-unreadable ls e)
