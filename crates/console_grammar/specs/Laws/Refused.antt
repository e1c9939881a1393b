-- Lines that are refused: where they may not stand, or after one that was. That nothing is stored is in proofs/Refused.antt.
use Rattle.std.specs.Prelude.{Option, None}
use Rattle.std.specs.Prelude.{◌≡◌, refl}
use Rattle.console_line.specs.declared.form.Line.{Line}
use Rattle.console_grammar.specs.Reading.{Request, unreadable, line_to}
use Rattle.console_grammar.specs.Held.{reading_at}
use Rattle.console_grammar.specs.declared.progress.Part.{Part}
use Rattle.console_grammar.specs.declared.progress.Part.TheVariants as Last

pub after-unreadable : (part : Part) (line : Option Line) → part ≡ Last.Unreadable → (q : Request) → line_to (reading_at part q) line ≡ unreadable
unfolding line_to
after-unreadable part line e q = rw e

unreadable-at : (part : Part) (q : Request) → line_to (reading_at part q) None ≡ unreadable
unfolding line_to
unreadable-at Last.Start q = refl
unreadable-at Last.Words q = refl
unreadable-at (Last.Block b e) q = refl
unreadable-at Last.Jobs q = refl
unreadable-at Last.Stints q = refl
unreadable-at Last.Unreadable q = refl

pub unreadable-line : (part : Part) (line : Option Line) → line ≡ None → (q : Request) → line_to (reading_at part q) line ≡ unreadable
unreadable-line part line e q = rw e (unreadable-at part q)
