-- The store after a line: what is put there is read from it again, and it keeps its room.
use Rattle.std.specs.Prelude.{List, [], ◌∷◌, ◌++◌, ◌≡◌, refl, ℕ, ◌+◌, ◌≤◌, ◌<◌, length, take, drop, set}
use Rattle.std.proofs.Common.{sym, ap, ◌∙◌, arith, length-set, take-append-drop, length-take-le, drop-set-lt}
use Rattle.console_grammar.specs.Reading.{Request, Part, readable}
use Rattle.console_grammar.specs.Held.{Lists, lists, in_use, CountsFit, Room, firsts, job_entries, stint_entries}
use Rattle.console_grammar.specs.Store.{input_store, over, kind_of, store_reading}
use Rattle.console_grammar.specs.Laws.Entries.{take-kept, entry-added, entries-full}
use Rattle.console_grammar.specs.declared.progress.Progress.{Progress}

-- ---- a readable line

-- the first n entries of l' are these, and the others those of l
pub record Laid (n : ℕ) (xs l l' : List ℕ) : Type 0 where
  pub first : take n l' ≡ xs
  pub rest : drop n l' ≡ drop n l
  pub inside : n ≤ length l'

module _ {n : ℕ} {xs l l' : List ℕ} (k : Laid n xs l l') where
  laid-length : length xs ≡ n
  laid-length = sym (ap length k.first) ∙ length-take-le n l' k.inside

  laid-over : over xs l ≡ l'
  laid-over = rw (laid-length, ← k.rest, ← k.first) (take-append-drop n l')

pub laid_same : (n k : ℕ) (l : List ℕ) → n ≤ k → n ≤ length l → Laid n (take k (take n l)) l l
laid_same n k l h i = record { first = sym (take-kept n k l h); rest = refl; inside = i }

pub laid-first : (n : ℕ) (l : List ℕ) → n ≤ length l → Laid n (take n l) l l
laid-first n l i = record { first = refl; rest = refl; inside = i }

-- one entry more, or a list that is full
pub laid-entry : (n k : ℕ) (l : List ℕ) (a : ℕ) → length l ≡ k → n < k → Laid (n + 1) (take k (take n l ++ (a ∷ []))) l (set l n a)
laid-entry n k l a e h =
    record {
      first = entry-added n k l a e h;
      rest = drop-set-lt (n + 1) l n a (omega arith);
      inside = simp length-set (omega arith);
    }

pub laid-full : (n k : ℕ) (l : List ℕ) (a : ℕ) → length l ≡ k → n ≡ k → Laid n (take k (take n l ++ (a ∷ []))) l l
laid-full n k l a e f = record { first = entries-full n k l a e f; rest = refl; inside = omega arith }

pub store-readable : (part : Part) (q : Request) {n j s : ℕ} {m m' js js' ss ss' ts ts' : List ℕ} → Laid n q.memory m m'
    → Laid j q.jobs js js' → Laid s q.stint_jobs ss ss' → Laid s q.stint_turns ts ts'
    → input_store (record { part = kind_of part; words = n; jobs = j; stints = s }) m' (lists js' ss' ts')
    ≡ store_reading (readable part q) m (lists js ss ts)
store-readable part q a b c d =
    rw (laid-over a, laid-over b, laid-over c, laid-over d, laid-length a, laid-length b, laid-length c)

-- a line that leaves the memory and the lists
pub in-use-stored : (part : Part) (p : Progress) (m : List ℕ) (l : Lists) → CountsFit p → Room m l
    → input_store (record { part = kind_of part; words = p.words; jobs = p.jobs; stints = p.stints }) m l
    ≡ store_reading (readable part (firsts (in_use p m l))) m l
in-use-stored part p m l k room =
    store-readable part (firsts (in_use p m l))
    (laid-first p.words m (omega (arith, k.words, room.memory)))
    (laid_same p.jobs job_entries l.jobs k.jobs (omega (arith, k.jobs, room.jobs)))
    (laid_same p.stints stint_entries l.stint_jobs k.stints (omega (arith, k.stints, room.stint_jobs)))
    (laid_same p.stints stint_entries l.stint_turns k.stints (omega (arith, k.stints, room.stint_turns)))
