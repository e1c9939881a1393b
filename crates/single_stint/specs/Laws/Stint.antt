-- A stint, by the results of its parts; the record comes back as it was, and no word outside package and field changes.
use Rattle.std.specs.Prelude.{true, List, Option, ◌⊎◌, ◌≡◌, ℕ, ◌+◌, ◌≤◌, ◌<◌, length, get_or}
use Rattle.std.proofs.Math.Logic.{⊎_elim}
use Rattle.std.proofs.Common.{sym, subst, ◌∙◌, arith}
use Rattle.std.proofs.Math.Path.{ap}
use Rattle.base_outcome.specs.declared.stop.CentralStop.{CentralStop}
use Rattle.central_apply.specs.State.{state}
use Rattle.central_turn.specs.Turn.{stop_number, Run}
use Rattle.base_lists.specs.Parts.{part}
use Rattle.exchange_package.specs.Package.{coded, package_record}
use Rattle.central_record.specs.Record.{FitsPackage, words_fit}
use Rattle.exchange_jump.specs.Jump.{record_at, Exchanged, exchanged}
use Rattle.base_lists.specs.Laws.Parts.{part_same, part-splice}
use Rattle.central_record.specs.Laws.Record.{fits}
use Rattle.exchange_package.specs.Laws.Package.{running, count-of-package, record-of-coded}
use Rattle.exchange_jump.specs.Accepted.{HostAccepted}
use Rattle.exchange_jump.specs.Laws.Verdicts.{host-accepted, of-host-accepted, of-package-accepted}
use Rattle.exchange_jump.specs.Laws.Jump.{exchange-length, exchange-package, exchange-below, exchange-above, exchange-words, exchange-host-accepted}
use Rattle.central_record.specs.declared.record.Central.{Central}
use Rattle.single_stint.specs.Field.{RanMemory, record_after, turns_on, field_run, ran_on}
use Rattle.single_stint.specs.Stint.{stint_to, with_stop, stint_of, StintAccepted}
use Rattle.single_stint.specs.Laws.Field.{field-inside, ran-left, ran-length, ran-fits-package, ran-accepted, ran-below, ran-above}
use Rattle.base_lists.specs.Laws.Overlap.{apart, shares-comm}

-- exchanged in, run and exchanged out
pub stint-is : (m : List ℕ) (c : Central) (at n : ℕ) (i : Exchanged) (o : RanMemory) (s : Option CentralStop) (x : Exchanged)
    → i ≡ exchanged m c at → o ≡ ran_on i.memory i.central n → o.end.central.stop ≡ stop_number s → x ≡ exchanged o.memory o.end.central at
    → stint_to x.memory (record { central = with_stop x.central c.stop; turns = o.end.turns; stop = s }) ≡ stint_of m c at n
unfolding stint_of
stint-is m c at n i o s x ei eo es ex = rw (← ei, ← eo, ← ex, es)

module _ (m : List ℕ) (c : Central) (at : ℕ) (a : StintAccepted m c at) where
  pub fits-package : FitsPackage c
  fits-package = (fits (length m) c a.host.fits).fits-package

  in-length : length (exchanged m c at).memory ≡ length m
  in-length = exchange-length m c at a.owner.inside

  -- the program's record and memory may be lent, as the host's may
  pub in-accepted : HostAccepted (exchanged m c at).memory (exchanged m c at).central
  in-accepted = host-accepted _ _ (exchange-host-accepted m c at (of-host-accepted m c a.host) (of-package-accepted m at a.owner))

  pub in_count : length (exchanged m c at).central.registers ≡ 24
  unfolding exchanged
  in_count = count-of-package (part m at 16)

  -- the memory that the turns leave
  abbrev ran : ℕ → List ℕ
  ran n = (ran_on (exchanged m c at).memory (exchanged m c at).central n).memory

  out-length : (n : ℕ) → length (ran n) ≡ length m
  out-length n = ran-length _ _ in-accepted in_count n ∙ in-length

  out-inside : (n : ℕ) → at + 16 ≤ length (ran n)
  out-inside n = omega (arith, a.owner.inside, out-length n)

  -- the same by the results of the parts: the exchange in and the turns, then the exchange out, may be made
  pub turns-may-run : (i : Exchanged) → i ≡ exchanged m c at → HostAccepted i.memory i.central
  turns-may-run i e = subst (λ (x : Exchanged). HostAccepted x.memory x.central) (sym e) in-accepted

  pub may-exchange-out : (n : ℕ) (i : Exchanged) (o : RanMemory) → i ≡ exchanged m c at → o ≡ ran_on i.memory i.central n
      → (at + 16 ≤ length o.memory) × FitsPackage o.end.central
  may-exchange-out n i o ei eo =
      rw (eo, ei) (out-inside n, ran-fits-package (exchanged m c at).memory (exchanged m c at).central in-accepted in_count n)

  outside-field : (n i : ℕ) → (i < (record_at m at).ra) ⊎ ((record_at m at).ra + (record_at m at).fl ≤ i)
      → get_or (ran n) i 0 ≡ get_or (exchanged m c at).memory i 0
  unfolding exchanged
  outside-field n i f = ⊎_elim (ran-below _ _ in-accepted in_count n i) (ran-above _ _ in-accepted in_count n i) f

  -- the turns leave the package
  package-word : (n i : ℕ) → at ≤ i → i < at + 16 → get_or (ran n) i 0 ≡ get_or (exchanged m c at).memory i 0
  package-word n i l h = outside-field n i (apart at 16 _ _ i a.apart l h)

  package-kept : (n : ℕ) → part (ran n) at 16 ≡ coded c
  package-kept n =
      part_same (ran n) (exchanged m c at).memory at 16 (ran-length _ _ in-accepted in_count n) (package-word n)
      ∙ exchange-package m c at a.owner.inside

  -- "hands the central record back as it was, stop included"
  pub stint-record : (n : ℕ) → length c.registers ≡ 24 → (stint_of m c at n).end.central ≡ c
  unfolding stint_of exchanged
  stint-record n count =
      ap (λ (r : Central). with_stop r c.stop) (ap package_record (package-kept n) ∙ record-of-coded c fits-package count)

  -- no word outside the package and the field changes
  pub stint-outside : (n i : ℕ) → (i < at) ⊎ (at + 16 ≤ i) → (i < (record_at m at).ra) ⊎ ((record_at m at).ra + (record_at m at).fl ≤ i)
      → get_or (stint_of m c at n).memory i 0 ≡ get_or m i 0
  unfolding stint_of
  stint-outside n i p f =
      ⊎_elim (exchange-below _ _ at (out-inside n) i) (exchange-above _ _ at (out-inside n) i) p
      ∙ outside-field n i f
      ∙ ⊎_elim (exchange-below m c at a.owner.inside i) (exchange-above m c at a.owner.inside i) p

  pub stint-length : (n : ℕ) → length (stint_of m c at n).memory ≡ length m
  unfolding stint_of
  stint-length n = exchange-length _ _ at (out-inside n) ∙ out-length n

  pub stint-words : (n : ℕ) → words_fit (stint_of m c at n).memory ≡ true
  unfolding stint_of
  stint-words n =
      exchange-words _ _ at (out-inside n) (ran-accepted _ _ in-accepted in_count n).words (ran-fits-package _ _ in-accepted in_count n)

  -- the field, which shares no word with the package, is not touched by an exchange
  field-left : (x : List ℕ) (d : Central) → at + 16 ≤ length x
      → part (exchanged x d at).memory (record_at m at).ra (record_at m at).fl ≡ part x (record_at m at).ra (record_at m at).fl
  field-left x d inside =
      part_same (exchanged x d at).memory x (record_at m at).ra (record_at m at).fl (exchange-length x d at inside)
      (λ i l h. ⊎_elim (exchange-below x d at inside i) (exchange-above x d at inside i)
      (apart (record_at m at).ra (record_at m at).fl at 16 i (shares-comm (record_at m at).ra (record_at m at).fl at 16 ∙ a.apart) l h))

  -- the turns of the package's record on its field
  abbrev own : ℕ → Run
  own n = field_run m (record_at m at) n

  turns-own : (n : ℕ) → field_run (exchanged m c at).memory (exchanged m c at).central n ≡ own n
  unfolding exchanged
  turns-own n = ap (turns_on n (record_at m at)) (field-left m c a.owner.inside)

  turns-record : (n : ℕ) → (ran_on (exchanged m c at).memory (exchanged m c at).central n).end.central ≡ record_after (record_at m at) (own n)
  unfolding ran_on exchanged
  turns-record n = ap (record_after (record_at m at)) (turns-own n)

  -- what a stint leaves of its own package and field, its turns and its stop go by these turns alone
  pub stint-package : (n : ℕ) → part (stint_of m c at n).memory at 16 ≡ coded (record_after (record_at m at) (own n))
  unfolding stint_of
  stint-package n = exchange-package _ _ at (out-inside n) ∙ ap coded (turns-record n)

  field-written : (n : ℕ) → part (ran n) (record_at m at).ra (record_at m at).fl ≡ (own n).state.field
  unfolding ran_on exchanged
  field-written n =
      part-splice (exchanged m c at).memory (record_at m at).ra (record_at m at).fl _
      (field-inside _ _ in-accepted) (ran-left _ _ in-accepted in_count n).kept.size
      ∙ ap (λ (o : Run). o.state.field) (turns-own n)

  pub stint-field : (n : ℕ) → part (stint_of m c at n).memory (record_at m at).ra (record_at m at).fl ≡ (own n).state.field
  unfolding stint_of
  stint-field n = field-left (ran n) _ (out-inside n) ∙ field-written n

  pub stint-turns : (n : ℕ) → (stint_of m c at n).end.turns ≡ (own n).end.turns
  unfolding stint_of ran_on
  stint-turns n = ap (λ (o : Run). o.end.turns) (turns-own n)

  pub stint-stop : (n : ℕ) → (stint_of m c at n).end.stop ≡ stop_number (own n).end.stop
  unfolding stint_of ran_on
  stint-stop n = ap (λ (o : Run). stop_number o.end.stop) (turns-own n)

  -- the record that the package then holds
  pub after-fits : (n : ℕ) → FitsPackage (record_after (record_at m at) (own n))
  after-fits n = subst FitsPackage (turns-record n) (ran-fits-package _ _ in-accepted in_count n)

  pub after-record : (n : ℕ) → record_at (stint_of m c at n).memory at ≡ running (record_after (record_at m at) (own n))
  after-record n =
      ap package_record (stint-package n)
      ∙ record-of-coded (record_after (record_at m at) (own n)) (after-fits n)
      (ap (λ (o : Run). length o.state.registers) (sym (turns-own n)) ∙ (ran-left _ _ in-accepted in_count n).kept.wide.count)
