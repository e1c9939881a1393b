-- The lines of stints, as their loop writes them.
use Rattle.std.specs.Prelude.{List, [], ◌∷◌, ◌++◌, ◌≡◌, refl, ℕ, suc, ◌+◌, ◌≤◌, ◌<◌, length, drop, get_or}
use Rattle.std.proofs.Common.{ap, add-one, arith, drop_of_length-le}
use Rattle.console_answer.specs.Text.{stint_text, stints_text}
use Rattle.console_text.specs.Laws.Bytes.{drop-next}

-- the lines of the stints from index i on
abbrev pub stints_from : ℕ → List ℕ → List ℕ → List ℕ → List ℕ
stints_from i jobs turns stops = stints_text i (drop i jobs) (drop i turns) (drop i stops)

pub stints-next : (jobs turns stops : List ℕ) (i : ℕ) → i < length jobs → length jobs ≤ length turns
    → length jobs ≤ length stops → stints_from i jobs turns stops
    ≡ stint_text i (get_or jobs i 0) (get_or turns i 0) (get_or stops i 0) ++ stints_from (i + 1) jobs turns stops
unfolding stints_text
stints-next jobs turns stops i h k l =
    rw (drop-next jobs i h, drop-next turns i (omega arith), drop-next stops i (omega arith), add-one)

pub stints-end : (jobs turns stops : List ℕ) (i : ℕ) → length jobs ≤ i → stints_from i jobs turns stops ≡ []
unfolding stints_text
stints-end jobs turns stops i h = rw (drop_of_length-le jobs {i = i} h)

-- what the lists of turns and stops hold past the last job changes nothing
pub stints-padded : (index : ℕ) (jobs turns stops xs ys : List ℕ) → length turns ≡ length jobs → length stops ≡ length jobs
    → stints_text index jobs (turns ++ xs) (stops ++ ys) ≡ stints_text index jobs turns stops
unfolding stints_text
stints-padded index [] turns stops xs ys e f = refl
stints-padded index (job ∷ jobs) [] stops xs ys e f = absurd (omega (arith, e))
stints-padded index (job ∷ jobs) (made ∷ turns) [] xs ys e f = absurd (omega (arith, f))
stints-padded index (job ∷ jobs) (made ∷ turns) (stop ∷ stops) xs ys e f =
    ap (λ (l : List ℕ). stint_text index job made stop ++ l)
    (stints-padded (suc index) jobs turns stops xs ys (omega (arith, e)) (omega (arith, f)))
