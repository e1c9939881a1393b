-- Byte by byte, with lines and lists cut, a reader comes to the reading of the lines.
use Rattle.std.specs.Prelude.{Option, Some, None}
use Rattle.std.specs.Prelude.{Bool, true, false, ◌&&◌, cond, List, [], ◌∷◌, ◌++◌, ◌≡◌, refl, ℕ, zero, suc, ◌+◌, eqb, leb, ltb, length, take, set}
use Rattle.std.proofs.Common.{ap, ◌∙◌, arith, take-take}
use Rattle.console_line.specs.Form.{line_of}
use Rattle.console_line.specs.Laws.Long.{cut}
use Rattle.console_line.specs.declared.form.Line.{Line}
use Rattle.console_line.specs.declared.form.Line.TheVariants.{Words, At, Word, Job, Stint}
use Rattle.console_grammar.specs.Lines.{Lines, lines_after, lines_of}
use Rattle.console_grammar.specs.Reading.{Request, request, Part, after_words, in_block, in_jobs, in_stints, Reading, no_line, readable, unreadable, at_to, word_to, job_to, with_job, line_to, all_to, ended, reading_of}
use Rattle.console_grammar.specs.Held.{firsts, keep, job_entries, stint_entries}
use Rattle.console_reader.specs.Laws.BytesRead.{Feeding, feeding, feed_to, feed_all, nothing_fed, end_of}

-- what is cut off a list may as well be cut off once more is added
pub cut-more : (n : ℕ) (l x : List ℕ) → take n (take n l ++ x) ≡ take n (l ++ x)
cut-more zero l x = refl
cut-more (suc n) [] x = refl
cut-more (suc n) (a ∷ l) x = ap (λ (t : List ℕ). a ∷ t) (cut-more n l x)

-- bytes in two runs
pub feed-append : (f : Feeding) (xs ys : List ℕ) → feed_all f (xs ++ ys) ≡ feed_all (feed_all f xs) ys
unfolding feed_all
feed-append f [] ys = refl
feed-append f (x ∷ xs) ys = feed-append (feed_to f x) xs ys

take_twice : (n : ℕ) (l : List ℕ) → take n (take n l) ≡ take n l
take_twice n l = take-take n n l (omega arith)

firsts-twice : (q : Request) → firsts (firsts q) ≡ firsts q
firsts-twice q = rw (take_twice job_entries q.jobs, take_twice stint_entries q.stint_jobs, take_twice stint_entries q.stint_turns)

-- what is kept of a request that a test lets by
keep-if : (t : Bool) (part : Part) (q : Request)
    → keep (cond t (readable part (firsts q)) unreadable) ≡ keep (cond t (readable part q) unreadable)
keep-if true part q = ap (λ (x : Request). readable part x) (firsts-twice q)
keep-if false part q = refl

keep-if-both : (t u : Bool) (part : Part) (q : Request)
    → keep (cond t (cond u (readable part (firsts q)) unreadable) unreadable)
    ≡ keep (cond t (cond u (readable part q) unreadable) unreadable)
keep-if-both true u part q = keep-if u part q
keep-if-both false u part q = refl

keep_at : (part : Part) (q : Request) (a : ℕ) → keep (at_to part (firsts q) a) ≡ keep (at_to part q a)
unfolding at_to
keep_at after_words q a = keep-if (ltb a (length q.memory)) (in_block a a) q
keep_at (in_block b e) q a = keep-if-both (ltb b a && leb e a) (ltb a (length q.memory)) (in_block a a) q
keep_at in_jobs q a = refl
keep_at in_stints q a = refl

keep_word : (part : Part) (q : Request) (w : ℕ) → keep (word_to part (firsts q) w) ≡ keep (word_to part q w)
unfolding word_to
keep_word after_words q w = refl
keep_word (in_block b e) q w =
    keep-if (ltb e (length q.memory)) (in_block b (e + 1)) (request (set q.memory e w) q.jobs q.stint_jobs q.stint_turns)
keep_word in_jobs q w = refl
keep_word in_stints q w = refl

job-firsts : (q : Request) (a : ℕ) → keep (readable in_jobs (with_job (firsts q) a)) ≡ keep (readable in_jobs (with_job q a))
job-firsts q a = rw (cut-more job_entries q.jobs (a ∷ []), take_twice stint_entries q.stint_jobs, take_twice stint_entries q.stint_turns)

keep-job : (part : Part) (q : Request) (a : ℕ) → keep (job_to part (firsts q) a) ≡ keep (job_to part q a)
unfolding job_to
keep-job after_words q a = job-firsts q a
keep-job (in_block b e) q a = job-firsts q a
keep-job in_jobs q a = job-firsts q a
keep-job in_stints q a = refl

-- a line after what was kept does what it does after all
pub keep-line : (x : Reading) (line : Option Line) → keep (line_to (keep x) line) ≡ keep (line_to x line)
unfolding line_to
keep-line no_line line = refl
keep-line (readable part q) (Some (Words n)) = refl
keep-line (readable part q) (Some (At a)) = keep_at part q a
keep-line (readable part q) (Some (Word w)) = keep_word part q w
keep-line (readable part q) (Some (Job a)) = keep-job part q a
keep-line (readable part q) (Some (Stint job turns)) =
    rw (take_twice job_entries q.jobs, cut-more stint_entries q.stint_jobs (job ∷ []), cut-more stint_entries q.stint_turns (turns ∷ []))
keep-line (readable part q) None = refl
keep-line unreadable line = refl

-- what the lines say, kept
abbrev kept : Lines → Reading → Feeding
kept ls x = feeding (take 32 ls.rest) (keep (all_to x ls.ended))

both_cond : {A B C : Type 0} (t : Bool) (f : A → C) (g : B → C) {a a' : A} {b b' : B} → f a ≡ g b → f a' ≡ g b'
    → f (cond t a a') ≡ g (cond t b b')
both_cond true f g h k = h
both_cond false f g h k = k

pub feed-lines : (bytes begun : List ℕ) (x : Reading) → feed_all (feeding (take 32 begun) (keep x)) bytes ≡ kept (lines_after begun bytes) x
unfolding feed_to feed_all lines_after all_to
feed-lines [] begun x = refl
feed-lines (byte ∷ bytes) begun x =
    both_cond (eqb byte 10) (λ (f : Feeding). feed_all f bytes) (λ (ls : Lines). kept ls x)
    (rw (cut begun, keep-line x (line_of begun)) (feed-lines bytes [] (line_to x (line_of begun))))
    (rw (cut-more 32 begun (byte ∷ [])) (feed-lines bytes (begun ++ (byte ∷ [])) x))

-- the end of the input
end_kept : (rest : List ℕ) (x : Reading) → end_of (feeding (take 32 rest) (keep x)) ≡ keep (ended rest x)
end_kept [] no_line = refl
end_kept [] (readable part q) = refl
end_kept [] unreadable = refl
end_kept (byte ∷ rest) no_line = refl
end_kept (byte ∷ rest) (readable part q) = refl
end_kept (byte ∷ rest) unreadable = refl

-- the whole input, fed from the start
pub feed-input : (bytes : List ℕ) → end_of (feed_all nothing_fed bytes) ≡ keep (reading_of bytes)
unfolding reading_of
feed-input bytes =
    ap end_of (feed-lines bytes [] no_line) ∙ end_kept (lines_of bytes).rest (all_to no_line (lines_of bytes).ended)
