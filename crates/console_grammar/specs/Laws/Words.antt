-- The line words=, and the memory that it clears.
use Rattle.std.specs.Prelude.{Some}
use Rattle.std.proofs.Math.Bool.{and-false}
use Rattle.std.specs.Prelude.{List, ◌++◌, [], ◌≡◌, refl, ℕ, ◌≤◌, ◌<◌, leb, length, take, drop, replicate}
use Rattle.std.proofs.Common.{le-leb, length-take-le}
use Rattle.std.proofs.lemmas.Bool.{lt-leb}
use Rattle.std.proofs.lemmas.List.{length-replicate}
use Rattle.console_line.specs.declared.form.Line.TheVariants.{Words}
use Rattle.console_grammar.specs.Reading.{Request, request, readable, unreadable, after_words, words_to, line_to}
use Rattle.console_grammar.specs.Held.{in_use, reading_at}
use Rattle.console_grammar.specs.Store.{over, store_line}
use Rattle.console_grammar.specs.Applied.{LineRead}
use Rattle.console_grammar.specs.declared.progress.Part.{Part}
use Rattle.console_grammar.specs.declared.progress.Part.TheVariants as Last
use Rattle.console_grammar.specs.declared.progress.Progress.{Progress}

-- words= is unreadable with a number outside its limits, wherever it stands
refused-words : (part : Part) (n : ℕ) → words_to n ≡ unreadable → (q : Request) → line_to (reading_at part q) (Some (Words n)) ≡ unreadable
unfolding line_to
refused-words Last.Start n e q = e
refused-words Last.Words n e q = refl
refused-words (Last.Block b end) n e q = refl
refused-words Last.Jobs n e q = refl
refused-words Last.Stints n e q = refl
refused-words Last.Unreadable n e q = refl

too_few : (n : ℕ) → n < 1 → words_to n ≡ unreadable
unfolding words_to
too_few n h = rw (lt-leb 1 n h)

too_many : (n : ℕ) → 0o10000 < n → words_to n ≡ unreadable
unfolding words_to
too_many n h = rw (lt-leb n 0o10000 h, and-false (leb 1 n))

pub words-low : (part : Part) (n : ℕ) → n < 1 → (q : Request) → line_to (reading_at part q) (Some (Words n)) ≡ unreadable
words-low part n h = refused-words part n (too_few n h)

pub words-high : (part : Part) (n : ℕ) → 0o10000 < n → (q : Request) → line_to (reading_at part q) (Some (Words n)) ≡ unreadable
words-high part n h = refused-words part n (too_many n h)

abbrev cleared : ℕ → Progress
cleared n = record { part = Last.Words; words = n; jobs = 0; stints = 0 }

first-words : (part : Part) (n : ℕ) → part ≡ Last.Start → 1 ≤ n → n ≤ 0o10000 → (q : Request)
    → line_to (reading_at part q) (Some (Words n)) ≡ readable after_words (request (replicate n 0) [] [] [])
unfolding line_to words_to
first-words part n e l h q = rw (e, le-leb 1 n l, le-leb n 0o10000 h)

-- the first n words are cleared, and the others stay
pub words-line-read : {p : Progress} {m m' : List ℕ} {n : ℕ} → p.part ≡ Last.Start → 1 ≤ n → n ≤ 0o10000 → m' ≡ over (replicate n 0) m
    → LineRead (Some (Words n)) p m (cleared n) m'
unfolding store_line
words-line-read {p} {m} {m'} {n} e l h f ls room =
    record { is = rw (first-words p.part n e l h (in_use p m ls), f, length-replicate {A = ℕ} n) }

-- the first n words are filled with zeros
pub zeros-over : (n : ℕ) (m zeros : List ℕ) → n ≤ length m → zeros ≡ replicate (length (take n m)) 0 → zeros ++ drop n m ≡ over (replicate n 0) m
zeros-over n m zeros h e = rw (e, length-take-le n m h, length-replicate {A = ℕ} n)
