-- What an accepted memory, record and package are.
use Rattle.std.specs.Prelude.{◌&&◌, List, ◌≡◌, ℕ, ◌+◌, length, Ok}
use borrow.Author.Tests.{leb-true, le-leb, not-true}
use Rattle.std.proofs.Math.Dec.{leb}
use Rattle.base_outcome.specs.Laws.Verdict.{by-test}
use Rattle.central_record.specs.declared.record.Central.{Central}
use Rattle.central_record.specs.Record.{record_fits, words_fit, host_verdict}
use Rattle.base_lists.specs.Parts.{part}
use Rattle.exchange_package.specs.Package.{has_stray}
use Rattle.exchange_jump.specs.Jump.{record_at, package_inside, package_clean, field_inside, package_verdict}
use Rattle.exchange_jump.specs.Accepted.{HostAccepted, PackageAccepted}
use Rattle.base_logic.specs.Laws.Tests.{both}

module _ (m : List ℕ) (c : Central) where
  pub host-accepted : host_verdict m c ≡ Ok tt → HostAccepted m c
  unfolding host_verdict
  host-accepted e =
      let t₁ = by-test (leb 1 (length m) && leb (length m) 131072) _ _ e in
      let t₃ = by-test (words_fit m) _ _ t₁.1 in
      let t₅ = by-test (record_fits (length m) c) _ _ t₃.1 in
      let b = both (leb 1 (length m)) (leb (length m) 131072) t₁.0 in
      record {
        nonempty = leb-true 1 (length m) b.0;
        at_most = leb-true (length m) 131072 b.1;
        words = t₃.0;
        fits = t₅.0;
      }

  pub of-host-accepted : HostAccepted m c → host_verdict m c ≡ Ok tt
  unfolding host_verdict
  of-host-accepted l = rw (le-leb 1 (length m) l.nonempty, le-leb (length m) 131072 l.at_most, l.words, l.fits)

module _ (m : List ℕ) (at : ℕ) where
  pub package-accepted : package_verdict m at ≡ Ok tt → PackageAccepted m at
  unfolding package_verdict package_inside package_clean field_inside
  package-accepted e =
      let t₉ = by-test (package_inside m at) _ _ e in
      let t₁₀ = by-test (package_clean m at) _ _ t₉.1 in
      let t₁₁ = by-test (field_inside m at) _ _ t₁₀.1 in
      record {
        inside = leb-true (at + 16) (length m) t₉.0;
        no_stray = not-true (has_stray (part m at 16)) t₁₀.0;
        field = leb-true ((record_at m at).ra + (record_at m at).fl) (length m) t₁₁.0;
      }

  pub of-package-accepted : PackageAccepted m at → package_verdict m at ≡ Ok tt
  unfolding package_verdict package_inside package_clean field_inside
  of-package-accepted r =
      rw (
        le-leb (at + 16) (length m) r.inside,
        r.no_stray,
        le-leb ((record_at m at).ra + (record_at m at).fl) (length m) r.field,
      )
