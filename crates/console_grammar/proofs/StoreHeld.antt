-- What a line puts in the store is read from it again, and the store keeps its room.
use Rattle.std.specs.Prelude.{Option, Some, None}
use Rattle.std.specs.Prelude.{Bool, ◌&&◌, cond, List, ◌≡◌, refl, ℕ, ◌≤◌, leb, ltb, length, take, drop}
use Rattle.std.proofs.Common.{◌∙◌, arith, leb-true, length-append, length-take, length-set, length-drop, length-take-le}
use Rattle.std.proofs.Math.Nat.{min-le_left}
use Rattle.std.proofs.lemmas.List.{length-replicate}
use Rattle.std.proofs.Math.Seq.{take-append_seam}
use Rattle.base_logic.specs.Laws.Choice.{of-cond}
use Rattle.base_logic.specs.Laws.Tests.{both}
use Rattle.console_line.specs.declared.form.Line.{Line}
use Rattle.console_line.specs.declared.form.Line.TheVariants.{Words, At, Word, Job, Stint}
use Rattle.console_grammar.specs.Reading.{Request, Part, Reading, no_line, readable, unreadable, after_words, in_block, in_jobs, in_stints, words_to, at_to, word_to, job_to, with_stint, line_to}
use Rattle.console_grammar.specs.Held.{Lists, in_use, reading_at, held, CountsFit, Room, firsts, keep, job_entries, stint_entries}
use Rattle.console_grammar.specs.Store.{InputStore, input_store, over, kind_of, store_reading, store_line}
use Rattle.console_grammar.specs.declared.progress.Part as Last
use Rattle.console_grammar.specs.declared.progress.Part.TheVariants as Kind
use Rattle.console_grammar.specs.declared.progress.Progress.{Progress}

-- ---- the sizes of what is asked for

-- no more words than the lent memory has, and as many turns as jobs of stints
pub record Sized (q : Request) : Type 0 where
  pub memory : length q.memory ≤ 0o10000
  pub even : length q.stint_turns ≡ length q.stint_jobs

abbrev SizedReading : Reading → Type 0
SizedReading no_line = Unit {0}
SizedReading (readable part q) = Sized q
SizedReading unreadable = Unit {0}

sized-at : (part : Last.Part) (q : Request) → Sized q → SizedReading (reading_at part q)
sized-at Kind.Start q k = tt
sized-at Kind.Words q k = k
sized-at (Kind.Block b e) q k = k
sized-at Kind.Jobs q k = k
sized-at Kind.Stints q k = k
sized-at Kind.Unreadable q k = tt

-- every line keeps them
sized-if : (t : Bool) (part : Part) (q : Request) → Sized q → SizedReading (cond t (readable part q) unreadable)
sized-if t part q k = of-cond SizedReading t (λ _. k) (λ _. tt)

sized-words : (n : ℕ) → SizedReading (words_to n)
unfolding words_to
sized-words n =
    of-cond SizedReading (leb 1 n && leb n 0o10000)
    (λ e. record { memory = rw (length-replicate {A = ℕ} n) (leb-true n 0o10000 (both (leb 1 n) (leb n 0o10000) e).1); even = refl })
    (λ _. tt)

sized-begin : (part : Part) (q : Request) (a : ℕ) → Sized q → SizedReading (at_to part q a)
unfolding at_to
sized-begin after_words q a k = sized-if (ltb a (length q.memory)) (in_block a a) q k
sized-begin (in_block b e) q a k =
    of-cond SizedReading (ltb b a && leb e a) (λ _. sized-if (ltb a (length q.memory)) (in_block a a) q k) (λ _. tt)
sized-begin in_jobs q a k = tt
sized-begin in_stints q a k = tt

sized-word : (part : Part) (q : Request) (w : ℕ) → Sized q → SizedReading (word_to part q w)
unfolding word_to
sized-word after_words q w k = tt
sized-word (in_block b e) q w k =
    of-cond SizedReading (ltb e (length q.memory)) (λ _. record { memory = rw (length-set q.memory e w) k.memory; even = k.even })
    (λ _. tt)
sized-word in_jobs q w k = tt
sized-word in_stints q w k = tt

sized-job : (part : Part) (q : Request) (a : ℕ) → Sized q → SizedReading (job_to part q a)
unfolding job_to
sized-job after_words q a k = record { memory = k.memory; even = k.even }
sized-job (in_block b e) q a k = record { memory = k.memory; even = k.even }
sized-job in_jobs q a k = record { memory = k.memory; even = k.even }
sized-job in_stints q a k = tt

sized-stint : (q : Request) (job turns : ℕ) → Sized q → Sized (with_stint q job turns)
sized-stint q job turns k = record { memory = k.memory; even = simp length-append (omega (arith, k.even)) }

sized-next : (part : Part) (q : Request) (line : Option Line) → Sized q → SizedReading (line_to (readable part q) line)
unfolding line_to
sized-next part q (Some (Words n)) k = tt
sized-next part q (Some (At a)) k = sized-begin part q a k
sized-next part q (Some (Word w)) k = sized-word part q w k
sized-next part q (Some (Job a)) k = sized-job part q a k
sized-next part q (Some (Stint job turns)) k = sized-stint q job turns k
sized-next part q None k = tt

sized-first : (line : Option Line) → SizedReading (line_to no_line line)
unfolding line_to
sized-first (Some (Words n)) = sized-words n
sized-first (Some (At a)) = tt
sized-first (Some (Word w)) = tt
sized-first (Some (Job a)) = tt
sized-first (Some (Stint job turns)) = tt
sized-first None = tt

sized-line : (x : Reading) (line : Option Line) → SizedReading x → SizedReading (line_to x line)
unfolding line_to
sized-line no_line line k = sized-first line
sized-line (readable part q) line k = sized-next part q line k
sized-line unreadable line k = tt

-- ---- the store after a reading

take-most : (n : ℕ) (l : List ℕ) → length (take n l) ≤ n
take-most n l = rw (length-take n l) (min-le_left n (length l))

length_over : (xs l : List ℕ) → length xs ≤ length l → length (over xs l) ≡ length l
length_over xs l h = simp (length-append, length-drop) (omega arith)

same_kind : (part : Part) (q : Request) → reading_at (kind_of part) q ≡ readable part q
same_kind after_words q = refl
same_kind (in_block b e) q = refl
same_kind in_jobs q = refl
same_kind in_stints q = refl

-- what the store holds, and its room
pub record Holds (s : InputStore) (x : Reading) : Type 0 where
  pub is : held s.progress s.memory s.lists ≡ x
  pub counts-fit : CountsFit s.progress
  pub room : Room s.memory s.lists

module _ (m : List ℕ) (l : Lists) (room : Room m l) where
  short-turns : (q : Request) → Sized q → length (take stint_entries q.stint_turns) ≡ length (take stint_entries q.stint_jobs)
  short-turns q k = rw (length-take stint_entries q.stint_turns, length-take stint_entries q.stint_jobs, k.even)

  holds-request : (part : Part) (q : Request) → Sized q → Holds (store_reading (readable part (firsts q)) m l) (readable part (firsts q))
  holds-request part q k =
      let js = take job_entries q.jobs in
      let ss = take stint_entries q.stint_jobs in
      let ts = take stint_entries q.stint_turns in
      let even = short-turns q k in
      record {
        is =
            rw (
              take-append_seam q.memory (drop (length q.memory) m),
              take-append_seam js (drop (length js) l.jobs),
              take-append_seam ss (drop (length ss) l.stint_jobs),
              ← even,
              take-append_seam ts (drop (length ts) l.stint_turns),
            )
            (same_kind part (firsts q));
        counts-fit = record { words = k.memory; jobs = take-most job_entries q.jobs; stints = take-most stint_entries q.stint_jobs };
        room =
            record {
              memory = length_over q.memory m (omega (arith, k.memory, room.memory)) ∙ room.memory;
              jobs = length_over js l.jobs (omega (arith, take-most job_entries q.jobs, room.jobs)) ∙ room.jobs;
              stint_jobs = length_over ss l.stint_jobs (omega (arith, take-most stint_entries q.stint_jobs, room.stint_jobs)) ∙ room.stint_jobs;
              stint_turns = length_over ts l.stint_turns (omega (arith, take-most stint_entries q.stint_turns, room.stint_turns)) ∙ room.stint_turns;
            };
      }

  holds-reading : (x : Reading) → SizedReading x → Holds (store_reading (keep x) m l) (keep x)
  holds-reading no_line k = record { is = refl; counts-fit = record { words = omega arith; jobs = omega arith; stints = omega arith }; room = room }
  holds-reading (readable part q) k = holds-request part q k
  holds-reading unreadable k = record { is = refl; counts-fit = record { words = omega arith; jobs = omega arith; stints = omega arith }; room = room }

in-use-sized : (p : Progress) (m : List ℕ) (l : Lists) → CountsFit p → Room m l → Sized (in_use p m l)
in-use-sized p m l k room =
    record {
      memory = omega (arith, take-most p.words m, k.words);
      even =
          rw (
            length-take-le p.stints l.stint_turns (omega (arith, k.stints, room.stint_turns)),
            length-take-le p.stints l.stint_jobs (omega (arith, k.stints, room.stint_jobs)),
          );
    }

-- after a line the store holds what the lines ask for
pub line-held : (p : Progress) (m : List ℕ) (l : Lists) (line : Option Line) → CountsFit p → Room m l
    → Holds (store_line (input_store p m l) line) (keep (line_to (held p m l) line))
unfolding store_line
line-held p m l line k room =
    holds-reading m l room (line_to (held p m l) line)
    (sized-line (held p m l) line (sized-at p.part (in_use p m l) (in-use-sized p m l k room)))
