-- The two definitions of what is readable agree: the fold over the lines reads the programs of document 01, and nothing else.
-- Both directions go from the first line to the last, by what may follow the lines read so far.
use Rattle.std.specs.Prelude.{Option, Some, None}
use Rattle.std.specs.Prelude.{List, [], ◌∷◌, map, ◌≡◌, refl, ℕ, ◌≤◌, leb}
use Rattle.std.proofs.Common.{sym, ap, ◌∙◌, leb-true}
use Rattle.std.proofs.lemmas.List.{length-replicate}
use Rattle.console_line.specs.Form.{line_of}
use Rattle.console_line.specs.declared.form.Line.{Line}
use Rattle.console_line.specs.declared.form.Line.TheVariants.{Words, At, Word, Job, Stint}
use Rattle.console_grammar.specs.Lines.{lines_of}
use Rattle.console_grammar.specs.Reading.{Request, Part, after_words, Reading, no_line, readable, words_to, line_to, all_to, ended, reading_of}
use Rattle.console_grammar.specs.Grammar.{Program, program_lines, Readable, request_of}
use Rattle.console_grammar.specs.Laws.Follow.{all_lines, texts-lines, zeroed}
use Rattle.console_grammar.proofs.Programs.{Reads, program-read}
use Rattle.console_grammar.specs.Laws.Read.{no_line-unread, unreadable-unread, still-unreadable, passed-both}
use Rattle.console_grammar.proofs.Read.{Follows, read-follows}
use Rattle.console_grammar.specs.Laws.Grammar.{ReadAs, ProgramOf}

-- each program is read, as what it asks for
pub readable-read : (bytes : List ℕ) (d : Program) → Readable bytes d → ReadAs bytes (request_of d)
unfolding reading_of
readable-read bytes d w =
    let x : Reads no_line (program_lines d) (request_of d) = program-read d w.at_least w.at_most w.blocks in
    record { part = x.part; is = rw (w.all-ended, texts-lines no_line (lines_of bytes).ended, w.lines) x.is }

-- the lines of an input, from its first
words-written : (bytes : List ℕ) → (lines_of bytes).rest ≡ [] → (n : ℕ) (ls : List (Option Line)) → map line_of (lines_of bytes).ended ≡ Some (Words n) ∷ ls
    → 1 ≤ n → n ≤ 0o10000 → {q : Request} → Follows after_words n (zeroed n) ls q → ProgramOf bytes q
words-written bytes r n ls f l h x =
    let no_words : x.words ≡ [] = x.fits.0 in
    record {
      program = record { words = n; blocks = x.blocks; jobs = x.jobs; stints = x.stints };
      readable =
          record {
            all-ended = r;
            lines = f ∙ ap (λ (l : List (Option Line)). Some (Words n) ∷ l) (rw no_words at x.lines);
            at_least = l;
            at_most = h;
            blocks = x.fits.1;
          };
      asks = rw no_words at x.asks;
    }

lines-written : (bytes : List ℕ) → (lines_of bytes).rest ≡ [] → (ls : List (Option Line)) → map line_of (lines_of bytes).ended ≡ ls
    → (part : Part) (q : Request) → all_lines no_line ls ≡ readable part q → ProgramOf bytes q
unfolding all_lines line_to words_to
lines-written bytes r [] f part q e = absurd (no_line-unread e)
lines-written bytes r (Some (Words n) ∷ ls) f part q e =
    passed-both (leb 1 n) (leb n 0o10000) (readable after_words (zeroed n)) ls
    (λ s t g. words-written bytes r n ls f (leb-true 1 n s) (leb-true n 0o10000 t)
    (read-follows n part q ls after_words (zeroed n) (length-replicate n 0) tt g)) e
lines-written bytes r (Some (At a) ∷ ls) f part q e = absurd (still-unreadable ls e)
lines-written bytes r (Some (Word w) ∷ ls) f part q e = absurd (still-unreadable ls e)
lines-written bytes r (Some (Job a) ∷ ls) f part q e = absurd (still-unreadable ls e)
lines-written bytes r (Some (Stint job turns) ∷ ls) f part q e = absurd (still-unreadable ls e)
lines-written bytes r (None ∷ ls) f part q e = absurd (still-unreadable ls e)

-- an input that is read has a line feed at its end
ended-read : (rest : List ℕ) (r : Reading) {part : Part} {q : Request} {A : Type 0} → (rest ≡ [] → r ≡ readable part q → A)
    → ended rest r ≡ readable part q → A
ended-read [] r f e = f refl e
ended-read (byte ∷ rest) r f e = absurd (unreadable-unread e)

-- what is read is a program, and is read as what the program asks for
pub read-readable : (bytes : List ℕ) (part : Part) (q : Request) → reading_of bytes ≡ readable part q → ProgramOf bytes q
unfolding reading_of
read-readable bytes part q e =
    ended-read (lines_of bytes).rest (all_to no_line (lines_of bytes).ended)
    (λ r f. lines-written bytes r (map line_of (lines_of bytes).ended) refl part q (sym (texts-lines no_line (lines_of bytes).ended) ∙ f)) e

-- an input that is no program's is not read
pub others-unreadable : (bytes : List ℕ) → ((d : Program) → Readable bytes d → ⊥) → (part : Part) (q : Request)
    → reading_of bytes ≡ readable part q → ⊥
others-unreadable bytes none part q e =
    let w : ProgramOf bytes q = read-readable bytes part q e in
    none w.program w.readable
