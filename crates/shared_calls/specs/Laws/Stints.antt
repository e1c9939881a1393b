-- The stints as a loop: the results of those made stand before those of the stints to come.
use mathlib.Core.List.{List, [], ◌∷◌, ◌++◌, append-nil}
use Rattle.std.specs.Prelude.{◌≡◌, refl, ℕ, suc, ◌+◌, ◌-◌, ◌≤◌, ◌<◌, length, get_or, map, set, take, replicate}
use Rattle.std.proofs.Common.{sym, ap, subst, ◌∙◌, add-one, arith, length-set, take-append-drop, length-take-le, drop-drop, drop-set-lt, take-suc-set}
use Rattle.std.proofs.Math.ListN.{drop, drop_of_length-le, get_or-map}
use Rattle.std.proofs.lemmas.List.{length-map, map-set}
use Rattle.base_lists.specs.Indexed.{tabulate}
use Rattle.base_lists.specs.Laws.Indexed.{tabulate-of}
use Rattle.central_turn.specs.Turn.{stop_number}
use Rattle.std.proofs.Math.Seq.{drop-cons, append_snoc}
use Rattle.central_record.specs.declared.record.Central.{Central}
use Rattle.single_stint.specs.Stint as Single
use Rattle.single_stint.specs.Stint.{StintMemory, stint_of}
use Rattle.shared_limits.specs.Limits.{most_stints}
use Rattle.shared_schedule.specs.Laws.Stint.{stint-may-run, length-kept, still-ready}
use Rattle.shared_schedule.specs.Ready.{Ready}
use Rattle.shared_schedule.specs.Schedule.{ScheduleEnd, stint_then, stints_of}
use Rattle.shared_calls.specs.Answer.{MayRun, turns_in, stops_in, padded, in_arrays}
use Rattle.shared_calls.specs.declared.stints.StintResult.{StintResult}
use Rattle.single_stint.specs.declared.stint.StintEnd.{StintEnd}

abbrev joined : List ℕ → List ℕ → ScheduleEnd → ScheduleEnd
joined xs ys o = record { memory = o.memory; central = o.central; turns = xs ++ o.turns; stops = ys ++ o.stops }

-- an array of results with 0 from entry k on
pub record ResultsFilled (k : ℕ) (xs : List ℕ) : Type 0 where
  pub size : length xs ≡ most_stints
  pub zeros : drop k xs ≡ replicate (most_stints - k) 0

filled_more : (k : ℕ) (xs : List ℕ) (v : ℕ) → k < most_stints → ResultsFilled k xs → ResultsFilled (k + 1) (set xs k v)
filled_more k xs v h f =
    record {
      size = length-set xs k v ∙ f.size;
      zeros =
          let e : most_stints - k ≡ suc (most_stints - (k + 1)) = omega arith in
          drop-set-lt (k + 1) xs k v (omega arith) ∙ sym (drop-drop 1 k xs) ∙ ap (drop 1) (f.zeros ∙ ap (λ (n : ℕ). replicate n 0) e);
    }

-- an array filled up to k is the list of its first k entries with zeros after it
filled-all : (k : ℕ) (xs : List ℕ) → k ≤ most_stints → ResultsFilled k xs → padded (take k xs) ≡ xs
filled-all k xs h f =
    rw (length-take-le k xs (omega (arith, f.size)), ← f.zeros) (take-append-drop k xs)

-- the state of the loop: with k stints made, those left give what the whole list gives from m₀ and c₀
pub record StintsGoing (jobs js ts m₀ : List ℕ) (c₀ : Central) (m : List ℕ) (c : Central) (turns stops : List ℕ) (k : ℕ) : Type 0 where
  pub may : MayRun m c jobs js ts
  pub upto : k ≤ length js
  pub same_size : length m ≡ length m₀
  pub turns-filled : ResultsFilled k turns
  pub stops-filled : ResultsFilled k stops
  pub is : joined (take k turns) (take k stops) (stints_of jobs (drop k js) (drop k ts) m c) ≡ stints_of jobs js ts m₀ c₀

pub stints-going-start : (jobs js ts m : List ℕ) (c : Central) → MayRun m c jobs js ts → StintsGoing jobs js ts m c m c (replicate most_stints 0) (replicate most_stints 0) 0
stints-going-start jobs js ts m c may =
    record {
      may = may;
      upto = omega arith;
      same_size = refl;
      turns-filled = record { size = refl; zeros = refl };
      stops-filled = record { size = refl; zeros = refl };
      is = refl;
    }

module _ (jobs js ts m₀ : List ℕ) (c₀ : Central) (m : List ℕ) (c : Central) (turns stops : List ℕ) (k : ℕ)
    (g : StintsGoing jobs js ts m₀ c₀ m c turns stops k) where
  pub stints-going-end : length js ≤ k
      → record { memory = m; end = record { central = c; turns = turns; stops = stops } } ≡ in_arrays (stints_of jobs js ts m₀ c₀)
  unfolding stints_of
  stints-going-end l =
      let most : k ≤ most_stints = omega (arith, g.upto, g.may.most) in
      let none : drop k js ≡ [] = drop_of_length-le js l in
      let is = rw (none, append-nil (take k turns), append-nil (take k stops)) at g.is in
      rw (← is, filled-all k turns most g.turns-filled, filled-all k stops most g.stops-filled)

  -- a stint of any listed job may be made now
  pub stint-allowed : (i : ℕ) → i < length js → (at : ℕ) → at ≡ get_or jobs (get_or js i 0) 0 → Single.StintAccepted m c at
  stint-allowed i l at e = subst (Single.StintAccepted m c) (sym e) (stint-may-run m c jobs g.may.ready (get_or js i 0) (g.may.listed i l))

  module _ (l : k < length js) where
    job-listed : get_or js k 0 < length jobs
    job-listed = g.may.listed k l

    abbrev made : StintMemory
    made = stint_of m c (get_or jobs (get_or js k 0) 0) (get_or ts k 0)

    next-stint : stints_of jobs (drop k js) (drop k ts) m c
        ≡ stint_then made (stints_of jobs (drop (k + 1) js) (drop (k + 1) ts) made.memory made.end.central)
    unfolding stints_of
    next-stint = rw (add-one, drop-cons js k 0 l, drop-cons ts k 0 (omega (arith, g.may.even)))

    entry_more : (xs zs : List ℕ) (v : ℕ) → length xs ≡ most_stints → take (k + 1) (set xs k v) ++ zs ≡ take k xs ++ (v ∷ zs)
    entry_more xs zs v e = rw (add-one, take-suc-set xs k v (omega (arith, g.may.most))) (append_snoc (take k xs) v zs)

    module _ (o : StintMemory) (e : o ≡ made) where
      abbrev later : ScheduleEnd
      later = stints_of jobs (drop (k + 1) js) (drop (k + 1) ts) o.memory o.end.central

      still-may : MayRun o.memory o.end.central jobs js ts
      still-may =
          record {
            ready = subst (λ (x : StintMemory). Ready x.memory x.end.central jobs) (sym e)
                (still-ready m c jobs g.may.ready (get_or js k 0) job-listed (get_or ts k 0));
            listed = g.may.listed;
            even = g.may.even;
            most = g.may.most;
          }

      stint-made : StintsGoing jobs js ts m₀ c₀ o.memory o.end.central (set turns k o.end.turns) (set stops k o.end.stop) (k + 1)
      stint-made =
          record {
            may = still-may;
            upto = omega arith;
            same_size =
                ap (λ (x : StintMemory). length x.memory) e
                ∙ length-kept m c jobs g.may.ready (get_or js k 0) job-listed (get_or ts k 0)
                ∙ g.same_size;
            turns-filled = filled_more k turns o.end.turns (omega (arith, g.may.most)) g.turns-filled;
            stops-filled = filled_more k stops o.end.stop (omega (arith, g.may.most)) g.stops-filled;
            is =
                rw (
                  entry_more turns later.turns o.end.turns g.turns-filled.size,
                  entry_more stops later.stops o.end.stop g.stops-filled.size,
                )
                (ap
                (λ (x : StintMemory). joined (take k turns) (take k stops)
                (stint_then x (stints_of jobs (drop (k + 1) js) (drop (k + 1) ts) x.memory x.end.central))) e
                ∙ ap (joined (take k turns) (take k stops)) (sym next-stint)
                ∙ g.is);
          }

    pub stints-going-on : (at : ℕ) → at ≡ get_or jobs (get_or js k 0) 0 → (o : StintMemory) → o ≡ stint_of m c at (get_or ts k 0)
        → StintsGoing jobs js ts m₀ c₀ o.memory o.end.central (set turns k o.end.turns) (set stops k o.end.stop) (k + 1)
    stints-going-on at e o h = stint-made o (h ∙ ap (λ (x : ℕ). stint_of m c x (get_or ts k 0)) e)

-- what a list holds, entry by entry
pub tabulate-map : {A B : Type 0} (f : A → B) (d : A) (n : ℕ) (xs : List A) → length xs ≡ n → tabulate n (λ i. f (get_or xs i d)) ≡ map f xs
tabulate-map f d n xs e = tabulate-of (λ i. f (get_or xs i d)) (f d) n (map f xs) (length-map xs f ∙ e) (λ i h. sym (get_or-map f xs i d))

-- the same by the results as they are stored
abbrev pub result_of : StintEnd → StintResult
result_of o = record { turns = o.turns; stop = o.stop }

pub results-going-on : (jobs js ts m₀ : List ℕ) (c₀ : Central) (m : List ℕ) (c : Central) (results : List StintResult) (k : ℕ)
    → StintsGoing jobs js ts m₀ c₀ m c (turns_in results) (stops_in results) k → k < length js
    → (at : ℕ) → at ≡ get_or jobs (get_or js k 0) 0 → (m' : List ℕ) (o : StintEnd) → Single.stint_to m' o ≡ stint_of m c at (get_or ts k 0)
    → StintsGoing jobs js ts m₀ c₀ m' o.central (turns_in (set results k (result_of o))) (stops_in (set results k (result_of o))) (k + 1)
results-going-on jobs js ts m₀ c₀ m c results k g l at e m' o h =
    rw (
      map-set (λ (r : StintResult). r.turns) results k (result_of o),
      map-set (λ (r : StintResult). stop_number r.stop) results k (result_of o),
    )
    (stints-going-on jobs js ts m₀ c₀ m c (turns_in results) (stops_in results) k g l at e (Single.stint_to m' o) h)
