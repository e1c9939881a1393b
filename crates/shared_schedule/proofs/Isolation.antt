-- Demand 3, proved of whole lists of stints.
use Rattle.std.specs.Prelude.{◌≡◌, ℕ, ◌<◌, length}
use Rattle.std.proofs.Common.{sym, ap, ap₂, subst, ◌∙◌, arith}
use Rattle.central_field.specs.declared.address.Bounds.{Bounds}
use Rattle.exchange_jump.specs.Jump.{record_at}
use Rattle.exchange_jump.specs.Laws.Jump.{record-at-fits, record-at-fits-package}
use Rattle.base_lists.specs.Laws.Parts.{length_part}
use Rattle.exchange_package.specs.Laws.Package.{count-of-package, coded-of-record}
use Rattle.exchange_jump.specs.Accepted.{HostAccepted}
use Rattle.exchange_jump.specs.Laws.Verdicts.{of-package-accepted}
use Rattle.base_lists.specs.Parts.{part}
use Rattle.exchange_package.specs.Package.{coded, package_record}
use Rattle.single_stint.specs.Laws.Field.{field-kept}
use Rattle.shared_schedule.specs.Isolation.{ScheduleAccepted, start, end, package_address, field_in, of_job, turns_asked, NoneButLast, StopsInLastOnly, Isolation, RestKept, RecordKept}
use Rattle.shared_schedule.specs.Job.{Job, job_at, JobStint, job_stint, JobEnd, seen_by_job, own_stints}
use Rattle.shared_schedule.specs.Laws.Projection.{projection, stints-record-back, stints-length-back, bounds-back, stints-word-back}
use Rattle.shared_schedule.proofs.Refusals.{accepted-lists, accepted-ready}
use Rattle.shared_schedule.proofs.Sum.{JobFits, total_of, stints-sum}
use Rattle.shared_schedule.specs.Ready.{Ready}
use Rattle.shared_schedule.specs.Schedule.{Schedule}

module _ (s : Schedule) (a : ScheduleAccepted s) where
  abbrev ready : Ready s.memory s.central s.jobs
  ready = accepted-ready s a

  module _ (i : ℕ) (li : i < length s.jobs) where
    abbrev at : ℕ
    at = package_address s i

    -- the job at the start
    abbrev before : Job
    before = job_at (start s) at

    may-be-lent : HostAccepted (start s) (record_at (start s) at)
    may-be-lent =
        record {
          nonempty = ready.host.nonempty;
          at_most = ready.host.at_most;
          words = ready.host.words;
          fits = record-at-fits (start s) at ready.host.words (of-package-accepted (start s) at (ready.owner i li));
        }

    job-fit : JobFits before
    job-fit =
        record {
          package-fits = record-at-fits-package (start s) at ready.host.words (of-package-accepted (start s) at (ready.owner i li));
          room = omega (arith, (ready.owner i li).field, ready.host.at_most);
          kept = field-kept (start s) (record_at (start s) at) may-be-lent (count-of-package (part (start s) at 16));
        }

    job-clean : coded (package_record before.package_words) ≡ before.package_words
    job-clean = coded-of-record (part (start s) at 16) (length_part (start s) at 16 (ready.owner i li).inside) (ready.owner i li).no_stray

    -- what a job sees of a schedule is the fold of its own stints, whatever stands between them
    pub own-stints-only : seen_by_job s i ≡ own_stints s i
    own-stints-only =
        projection s.jobs s.stint_jobs s.stint_turns s.memory s.central ready (accepted-lists s a).listed i li

    -- and, where none but its last stops, one stint of all the turns asked
    pub as-one-stint : StopsInLastOnly s i → total_of (seen_by_job s i) ≡ job_stint (turns_asked s i) before
    as-one-stint last =
        ap total_of own-stints-only
        ∙ stints-sum (of_job i s.stint_jobs s.stint_turns) before job-fit job-clean
        (subst NoneButLast (ap (λ (l : JobEnd). l.stops) own-stints-only) last)

    -- the field by the package at the start is the field by the package at the end
    field_end : field_in s i (end s) ≡ (job_at (end s) at).field_words
    field_end =
        ap (λ (b : Bounds). part (end s) b.ra b.fl)
        (sym (bounds-back s.jobs s.stint_jobs s.stint_turns s.memory s.central ready (accepted-lists s a).listed i li))

pub isolation : Isolation
isolation s s' a a' i i' li li' last last' alike =
    let same : job_at (start s) (package_address s i) ≡ job_at (start s') (package_address s' i')
    = λ x. record { package_words = alike.packages x; field_words = alike.fields x } in
    let totals : total_of (seen_by_job s i) ≡ total_of (seen_by_job s' i')
    = as-one-stint s a i li last ∙ ap₂ job_stint alike.asked same ∙ sym (as-one-stint s' a' i' li' last') in
    record {
      packages = ap (λ (t : JobStint). t.job.package_words) totals;
      fields = field_end s a i li ∙ ap (λ (t : JobStint). t.job.field_words) totals ∙ sym (field_end s' a' i' li');
      made = ap (λ (t : JobStint). t.turns) totals;
      stop = ap (λ (t : JobStint). t.stop) totals;
    }

pub rest-kept : RestKept
rest-kept s a =
    let l = (accepted-lists s a).listed in (
      stints-length-back s.jobs s.stint_jobs s.stint_turns s.memory s.central (accepted-ready s a) l,
      stints-word-back s.jobs s.stint_jobs s.stint_turns s.memory s.central (accepted-ready s a) l,
    )

pub record-kept : RecordKept
record-kept s a =
    stints-record-back s.jobs s.stint_jobs s.stint_turns s.memory s.central (accepted-ready s a) (accepted-lists s a).listed
