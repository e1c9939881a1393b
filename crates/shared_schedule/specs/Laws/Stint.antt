-- What a stint leaves of each job, and that the jobs may be scheduled still.
use Rattle.std.specs.Prelude.{Bool, true, false, List, ◌≡◌, refl, ℕ, ◌<◌, eqb, length, get_or}
use Rattle.std.proofs.Common.{sym, ap, subst, ◌∙◌, arith, eqb-true}
use Rattle.std.proofs.lemmas.Bool.{eqb-false}
use Rattle.central_field.specs.declared.address.Bounds.{Bounds}
use Rattle.exchange_jump.specs.Jump.{record_at}
use Rattle.base_lists.specs.Laws.Parts.{part_same}
use Rattle.exchange_package.specs.Laws.Package.{coded-no-stray}
use Rattle.exchange_jump.specs.Accepted.{HostAccepted}
use Rattle.base_lists.specs.Parts.{part}
use Rattle.exchange_package.specs.Package.{has_stray, package_record}
use Rattle.central_record.specs.declared.record.Central.{Central}
use Rattle.single_stint.specs.Field.{bounds_of}
use Rattle.base_lists.specs.Laws.Overlap.{apart, shares-comm}
use Rattle.single_stint.specs.Laws.Stint.{stint-record, stint-outside, stint-length, stint-words, stint-package, stint-field, stint-turns, stint-stop, after-fits, after-record}
use Rattle.base_lists.specs.Overlap.{shares_word}
use Rattle.single_stint.specs.Stint as Single
use Rattle.single_stint.specs.Stint.{stint_of}
use Rattle.shared_schedule.specs.Job.{job_at, job_run, job_after, job_stint, left_at}
use Rattle.shared_schedule.specs.Ready.{Ready}

module _ (m : List ℕ) (c : Central) (jobs : List ℕ) (r : Ready m c jobs) (j : ℕ) (lj : j < length jobs) where
  abbrev at : ℕ → ℕ
  at i = get_or jobs i 0

  -- what is asked for a stint of job j
  pub stint-may-run : Single.StintAccepted m c (at j)
  stint-may-run = record { host = r.host; owner = r.owner j lj; apart = r.package-field j j lj lj }

  module _ (n : ℕ) where
    abbrev left : List ℕ
    left = (stint_of m c (at j) n).memory

    pub stint-record-kept : (stint_of m c (at j) n).end.central ≡ c
    stint-record-kept = stint-record m c (at j) stint-may-run n r.registers

    pub length-kept : length left ≡ length m
    length-kept = stint-length m c (at j) stint-may-run n

    -- a part that shares no word with the package and the field of job j
    part-kept : (b k : ℕ) → shares_word b k (at j) 16 ≡ false → shares_word b k (record_at m (at j)).ra (record_at m (at j)).fl ≡ false
        → part left b k ≡ part m b k
    part-kept b k p f =
        part_same left m b k length-kept
        (λ x l h. stint-outside m c (at j) stint-may-run n x (apart b k (at j) 16 x p l h) (apart b k _ _ x f l h))

    -- another job's package and field
    module _ (i : ℕ) (li : i < length jobs) (other : j ≡ i → ⊥) where
      package-kept : part left (at i) 16 ≡ part m (at i) 16
      package-kept = part-kept (at i) 16 (r.packages i j li lj (λ e. other (sym e))) (r.package-field i j li lj)

      other-record : record_at left (at i) ≡ record_at m (at i)
      other-record = ap package_record package-kept

      field-kept : part left (record_at m (at i)).ra (record_at m (at i)).fl ≡ part m (record_at m (at i)).ra (record_at m (at i)).fl
      field-kept =
          part-kept (record_at m (at i)).ra (record_at m (at i)).fl
          (shares-comm (record_at m (at i)).ra (record_at m (at i)).fl (at j) 16 ∙ r.package-field j i lj li)
          (r.fields i j li lj (λ e. other (sym e)))

      pub other-job : job_at left (at i) ≡ job_at m (at i)
      other-job = rw other-record (λ x. record { package_words = package-kept x; field_words = field-kept x })

    -- job j's own
    own-job : job_at left (at j) ≡ job_after (job_at m (at j)) (job_run n (job_at m (at j)))
    own-job =
        rw (after-record m c (at j) stint-may-run n)
        (λ x. record { package_words = stint-package m c (at j) stint-may-run n x; field_words = stint-field m c (at j) stint-may-run n x })

    pub own-stint : left_at (stint_of m c (at j) n) (at j) ≡ job_stint n (job_at m (at j))
    own-stint =
        λ x. record { job = own-job x; turns = stint-turns m c (at j) stint-may-run n x; stop = stint-stop m c (at j) stint-may-run n x }

    -- what holds of job j and of every other job holds of each
    each : (P : ℕ → Type 0) → P j → ((i : ℕ) → i < length jobs → (j ≡ i → ⊥) → P i) → (i : ℕ) → i < length jobs → P i
    each P own others i li = by-test (eqb j i) refl
      where
        by-test : (b : Bool) → eqb j i ≡ b → P i
        by-test true e = subst P (eqb-true j i e) own
        by-test false e = others i li (eqb-false j i e)

    -- RA, FL and EM of every job stay
    pub bounds-kept : (i : ℕ) → i < length jobs → bounds_of (record_at left (at i)) ≡ bounds_of (record_at m (at i))
    bounds-kept =
        each (λ i. bounds_of (record_at left (at i)) ≡ bounds_of (record_at m (at i)))
        (ap bounds_of (after-record m c (at j) stint-may-run n))
        (λ i li o. ap bounds_of (other-record i li o))

    pub ra-kept : (i : ℕ) → i < length jobs → (record_at left (at i)).ra ≡ (record_at m (at i)).ra
    ra-kept i li = ap (λ (b : Bounds). b.ra) (bounds-kept i li)

    pub fl-kept : (i : ℕ) → i < length jobs → (record_at left (at i)).fl ≡ (record_at m (at i)).fl
    fl-kept i li = ap (λ (b : Bounds). b.fl) (bounds-kept i li)

    no-stray-kept : (i : ℕ) → i < length jobs → has_stray (part left (at i) 16) ≡ false
    no-stray-kept =
        each (λ i. has_stray (part left (at i) 16) ≡ false)
        (ap has_stray (stint-package m c (at j) stint-may-run n) ∙ coded-no-stray _ (after-fits m c (at j) stint-may-run n))
        (λ i li o. ap has_stray (package-kept i li o) ∙ (r.owner i li).no_stray)

    host-still : HostAccepted left c
    host-still =
        record {
          nonempty = omega (arith, length-kept, r.host.nonempty);
          at_most = omega (arith, length-kept, r.host.at_most);
          words = stint-words m c (at j) stint-may-run n;
          fits = rw length-kept r.host.fits;
        }

    -- the jobs may be scheduled still
    pub still-ready : Ready left (stint_of m c (at j) n).end.central jobs
    still-ready =
        rw stint-record-kept
        (record {
          host = host-still;
          registers = r.registers;
          owner = λ i li. record {
            inside = omega (arith, length-kept, (r.owner i li).inside);
            no_stray = no-stray-kept i li;
            field = rw (ra-kept i li, fl-kept i li, length-kept) (r.owner i li).field;
          };
          package-field = λ i k li lk. rw (ra-kept k lk, fl-kept k lk) (r.package-field i k li lk);
          packages = r.packages;
          fields = λ i k li lk o. rw (ra-kept i li, fl-kept i li, ra-kept k lk, fl-kept k lk) (r.fields i k li lk o);
        })
