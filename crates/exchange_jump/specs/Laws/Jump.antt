-- What an exchange jump keeps, and that a second one undoes it.
use Rattle.std.specs.Prelude.{true, false, List, ◌≡◌, ℕ, ◌+◌, ◌^◌, ◌≤◌, ◌<◌, length, get_or, Ok}
use Rattle.std.proofs.Math.Path.{ap₂}
use Rattle.std.proofs.Common.{◌∙◌}
use Rattle.central_record.specs.declared.record.Central.{Central}
use Rattle.central_record.specs.Record.{record_fits, words_fit, FitsPackage, host_verdict}
use Rattle.base_lists.specs.Parts.{part, splice}
use Rattle.exchange_package.specs.Package.{coded, has_stray}
use Rattle.exchange_jump.specs.Jump.{record_at, package_verdict, exchanged_to, exchanged}
use Rattle.central_record.specs.Laws.Record.{fits, word_width, of-word-width}
use Rattle.base_lists.specs.Laws.Parts.{part-lt, length_part, splice-part, length-splice, part-splice, splice-splice, word_below, word-above, splice-lt}
use Rattle.exchange_package.specs.Laws.Package.{running, length-coded, record-of-coded, coded-of-record, no_stray, package-record-fits, coded-no-stray, coded-lt}
use Rattle.exchange_jump.specs.Laws.Verdicts.{host-accepted, of-host-accepted, package-accepted, of-package-accepted}

module _ (m : List ℕ) (c : Central) (at : ℕ) (inside : at + 16 ≤ length m) where
  pub exchange-length : length (exchanged m c at).memory ≡ length m
  unfolding exchanged
  exchange-length = length-splice m at 16 (coded c) inside (length-coded c)

  -- the package holds the record that was exchanged out
  pub exchange-package : part (exchanged m c at).memory at 16 ≡ coded c
  unfolding exchanged
  exchange-package = part-splice m at 16 (coded c) inside (length-coded c)

  -- words outside the package keep their values
  pub exchange-below : (i : ℕ) → i < at → get_or (exchanged m c at).memory i 0 ≡ get_or m i 0
  unfolding exchanged
  exchange-below = word_below m at 16 (coded c) inside (length-coded c)

  pub exchange-above : (i : ℕ) → at + 16 ≤ i → get_or (exchanged m c at).memory i 0 ≡ get_or m i 0
  unfolding exchanged
  exchange-above = word-above m at 16 (coded c) inside (length-coded c)

  pub exchange-words : words_fit m ≡ true → FitsPackage c → words_fit (exchanged m c at).memory ≡ true
  unfolding exchanged
  exchange-words h w =
      of-word-width (splice m at 16 (coded c))
      (splice-lt m at 16 (coded c) inside (length-coded c) (2 ^ 60) (word_width m h) (coded-lt c w))

  -- a second exchange at the same package gives memory and record back, with the processor running
  pub exchange-back : FitsPackage c → length c.registers ≡ 24 → has_stray (part m at 16) ≡ false
      → exchanged (exchanged m c at).memory (exchanged m c at).central at ≡ exchanged_to m (running c)
  unfolding exchanged
  exchange-back w count h =
      let long = length-coded c in
      ap₂ exchanged_to
      (splice-splice m at 16 (coded c) inside long (coded (record_at m at))
      ∙ rw (coded-of-record (part m at 16) (length_part m at 16 inside) h) (splice-part m at 16))
      (rw (part-splice m at 16 (coded c) inside long) (record-of-coded c w count))

-- the record of an accepted package fits
module _ (m : List ℕ) (at : ℕ) (words : words_fit m ≡ true) (owner : package_verdict m at ≡ Ok tt) where
  pub record-at-fits : record_fits (length m) (record_at m at) ≡ true
  record-at-fits =
      let r = package-accepted m at owner in
      package-record-fits (part m at 16) (no_stray (part m at 16) r.no_stray)
      (part-lt m at 16 (2 ^ 60) (word_width m words))
      (length m)
      r.field

  pub record-at-fits-package : FitsPackage (record_at m at)
  record-at-fits-package = (fits (length m) (record_at m at) record-at-fits).fits-package

-- the exchange of an accepted record at an accepted package
module _ (m : List ℕ) (c : Central) (at : ℕ) (host : host_verdict m c ≡ Ok tt) (owner : package_verdict m at ≡ Ok tt) where
  fits-package : FitsPackage c
  fits-package = (fits (length m) c (host-accepted m c host).fits).fits-package

  pub exchange-twice : length c.registers ≡ 24
      → exchanged (exchanged m c at).memory (exchanged m c at).central at ≡ exchanged_to m (running c)
  exchange-twice count = let r = package-accepted m at owner in exchange-back m c at r.inside fits-package count r.no_stray

  -- the record handed back fits
  pub exchange-record : record_fits (length m) (exchanged m c at).central ≡ true
  unfolding exchanged
  exchange-record = record-at-fits m at (host-accepted m c host).words owner

  -- what was accepted is accepted after the exchange
  pub exchange-host-accepted : host_verdict (exchanged m c at).memory (exchanged m c at).central ≡ Ok tt
  exchange-host-accepted =
      let l = host-accepted m c host in
      let inside = (package-accepted m at owner).inside in
      let same = exchange-length m c at inside in
      of-host-accepted (exchanged m c at).memory (exchanged m c at).central
      (record {
        nonempty = rw same l.nonempty;
        at_most = rw same l.at_most;
        words = exchange-words m c at inside l.words fits-package;
        fits = rw same exchange-record;
      })

  pub exchange-package-accepted : length c.registers ≡ 24 → package_verdict (exchanged m c at).memory at ≡ Ok tt
  exchange-package-accepted count =
      let inside = (package-accepted m at owner).inside in
      let same = exchange-length m c at inside in
      let stored = exchange-package m c at inside in
      of-package-accepted (exchanged m c at).memory at
      (record {
        inside = rw same inside;
        no_stray = rw stored (coded-no-stray c fits-package);
        field = rw (stored, record-of-coded c fits-package count, same) (fits (length m) c (host-accepted m c host).fits).field;
      })
