-- The lines of a block: where it begins, and its words.
use Rattle.std.specs.Prelude.{Some}
use Rattle.std.proofs.Math.Bool.{and-false}
use Rattle.std.specs.Prelude.{List, ◌≡◌, ℕ, ◌+◌, ◌≤◌, ◌<◌, ltb, length, take, set}
use Rattle.std.proofs.Common.{arith, length-take-le}
use borrow.Author.Tests.{lt-ltb, le-ltb, lt-leb, le-leb}
use Rattle.std.proofs.Math.ListN.{length-set}
use Rattle.std.proofs.Math.Seq.{take-set-lt, drop-set-lt}
use Rattle.console_line.specs.declared.form.Line.TheVariants.{At, Word}
use Rattle.console_grammar.specs.Reading.{Request, unreadable, in_block, begin_at, at_to, word_to, line_to}
use Rattle.console_grammar.specs.Held.{in_use, reading_at, CountsFit, firsts, job_entries, stint_entries}
use Rattle.console_grammar.specs.Store.{store_line}
use Rattle.console_grammar.specs.Applied.{Begun, LineRead, BeginRead}
use Rattle.console_grammar.specs.Laws.Follow.{with_word}
use Rattle.console_grammar.specs.Laws.Store.{laid_same, store-readable, in-use-stored}
use Rattle.console_grammar.specs.declared.progress.Part.{Part}
use Rattle.console_grammar.specs.declared.progress.Part.TheVariants as Last
use Rattle.console_grammar.specs.declared.progress.Progress.{Progress}

-- the beginning of a block
abbrev block : Progress → ℕ → ℕ → Progress
block p b e = record { part = Last.Block b e; words = p.words; jobs = p.jobs; stints = p.stints }

-- the memory of a request has the words that were asked for
pub memory-length : (p : Progress) (m : List ℕ) → CountsFit p → length m ≡ 4096 → length (take p.words m) ≡ p.words
memory-length p m k e = length-take-le p.words m (omega (arith, k.words))

pub begun-inside : (p : Progress) (a : ℕ) → CountsFit p → a < p.words → Begun a p (block p a a)
begun-inside p a k h =
    record {
      is = λ m l room. rw (memory-length p m k room.memory, lt-ltb a p.words h) (in-use-stored (in_block a a) p m l k room);
    }

at_first : (part : Part) (a : ℕ) → part ≡ Last.Words → (q : Request) → begin_at a q ≡ line_to (reading_at part q) (Some (At a))
unfolding line_to at_to
at_first part a e q = rw e

pub begin-first : {p r : Progress} {a : ℕ} → p.part ≡ Last.Words → Begun a p r → BeginRead a p r
unfolding store_line
begin-first {p} {r} {a} e b m l room = record { is = rw (← at_first p.part a e (in_use p m l)) (b.is m l room) }

module _ (part : Part) (b e a : ℕ) (k : part ≡ Last.Block b e) where
  pub at-or-below : a ≤ b → (q : Request) → line_to (reading_at part q) (Some (At a)) ≡ unreadable
  unfolding line_to at_to
  at-or-below h q = rw (k, le-ltb b a h)

  pub below_end : a < e → (q : Request) → line_to (reading_at part q) (Some (At a)) ≡ unreadable
  unfolding line_to at_to
  below_end h q = rw (k, lt-leb e a h, and-false (ltb b a))

  at_next : b < a → e ≤ a → (q : Request) → begin_at a q ≡ line_to (reading_at part q) (Some (At a))
  unfolding line_to at_to
  at_next above h q = rw (k, lt-ltb b a above, le-leb e a h)

pub begin-next : {p r : Progress} {b e a : ℕ} → p.part ≡ Last.Block b e → b < a → e ≤ a → Begun a p r → BeginRead a p r
unfolding store_line
begin-next {p} {r} {b} {e} {a} k above h f m l room =
    record { is = rw (← at_next p.part b e a k above h (in_use p m l)) (f.is m l room) }

-- a word of a block
module _ {p : Progress} {m : List ℕ} {b e w : ℕ} (k : CountsFit p) (f : p.part ≡ Last.Block b e) where
  pub block-word-read : e < p.words → LineRead (Some (Word w)) p m (block p b (e + 1)) (set m e w)
  unfolding store_line line_to word_to
  block-word-read h l room =
      record {
        is =
            rw (f, memory-length p m k room.memory, lt-ltb e p.words h)
            (store-readable (in_block b (e + 1)) (firsts (with_word (in_use p m l) e w))
            (record {
              first = take-set-lt p.words m e w h;
              rest = drop-set-lt p.words m e w h;
              inside = simp length-set (omega (arith, k.words, room.memory));
            })
            (laid_same p.jobs job_entries l.jobs k.jobs (omega (arith, k.jobs, room.jobs)))
            (laid_same p.stints stint_entries l.stint_jobs k.stints (omega (arith, k.stints, room.stint_jobs)))
            (laid_same p.stints stint_entries l.stint_turns k.stints (omega (arith, k.stints, room.stint_turns))));
      }
