-- A job's own stints, where none but the last stops, are one stint of the turns of all.
use Rattle.std.specs.Prelude.{List, [], ◌∷◌, None, ◌≡◌, ℕ, ◌+◌, ◌≤◌}
use Rattle.std.proofs.Common.{sym, ap, ◌∙◌, add-zero, eq-eqb}
use Rattle.central_turn.specs.Laws.Run.{RunKept, run-left, turns-then-turns}
use Rattle.central_apply.specs.State.{state}
use Rattle.central_turn.specs.Laws.Stop.{is-none, number-of-none}
use Rattle.central_turn.specs.Turn.{stop_number, turns_before, turns_of}
use Rattle.central_apply.specs.Widths.{StateKept}
use Rattle.exchange_package.specs.Laws.Package.{running, record-of-coded}
use Rattle.exchange_package.specs.Package.{coded, package_record}
use Rattle.central_record.specs.Record.{FitsPackage}
use Rattle.central_record.specs.declared.record.Central.{Central}
use Rattle.single_stint.specs.Field.{bounds_of, record_after}
use Rattle.single_stint.specs.Laws.Field.{after-fits-package}
use Rattle.shared_schedule.specs.Isolation.{total, last_of, NoneButLast}
use Rattle.shared_schedule.specs.Job.{Job, job_run, job_after, JobStint, job_stint, JobEnd, job_stints}

-- a job with its widths
pub record JobFits (w : Job) : Type 0 where
  pub package-fits : FitsPackage (package_record w.package_words)
  pub room : (package_record w.package_words).fl ≤ 131072
  pub kept : StateKept (package_record w.package_words).fl (state (package_record w.package_words).registers w.field_words)

module _ (w : Job) (f : JobFits w) (n : ℕ) where
  abbrev first : Central
  first = package_record w.package_words

  run-leaves : RunKept first.fl (job_run n w)
  run-leaves = run-left first.fl (bounds_of first) f.room n first.p _ f.package-fits.p-width f.kept

  after-fits : FitsPackage (record_after first (job_run n w))
  after-fits = after-fits-package first f.package-fits first.fl (job_run n w) run-leaves

  -- the record that the package holds after the turns
  next-record : package_record (job_after w (job_run n w)).package_words ≡ running (record_after first (job_run n w))
  next-record = record-of-coded (record_after first (job_run n w)) after-fits run-leaves.kept.wide.count

  pub fit-after : JobFits (job_after w (job_run n w))
  fit-after =
      record {
        package-fits = rw next-record (record {
          p-width = after-fits.p-width;
          ra-width = after-fits.ra-width;
          fl-width = after-fits.fl-width;
          em-fits = after-fits.em-fits;
          register-width = after-fits.register-width;
          b0-zero = after-fits.b0-zero;
        });
        room = rw next-record f.room;
        kept = rw next-record run-leaves.kept;
      }

  module _ (k : ℕ) (going : stop_number (job_run n w).end.stop ≡ 0) where
    no-stop : (job_run n w).end.stop ≡ None
    no-stop = is-none (job_run n w).end.stop (sym (number-of-none (job_run n w).end.stop) ∙ eq-eqb _ 0 going)

    -- n turns without a stop and then k are n + k turns
    run_on : job_run (n + k) w ≡ turns_before (job_run n w).end.turns (job_run k (job_after w (job_run n w)))
    run_on =
        rw next-record
        (turns-then-turns n k (bounds_of first) first.p (state first.registers w.field_words) no-stop)

    after_on : job_after w (job_run (n + k) w) ≡ job_after (job_after w (job_run n w)) (job_run k (job_after w (job_run n w)))
    after_on = rw (run_on, next-record)

-- the job after its stints, the turns made in all and the stop of the last
abbrev pub total_of : JobEnd → JobStint
total_of l = record { job = l.job; turns = total l.turns; stop = last_of l.stops }

abbrev made_before : ℕ → JobStint → JobStint
made_before n o = record { job = o.job; turns = n + o.turns; stop = o.stop }

one_more : (t k : ℕ) (w : Job) → JobFits w → stop_number (job_run t w).end.stop ≡ 0
    → made_before (job_run t w).end.turns (job_stint k (job_after w (job_run t w))) ≡ job_stint (t + k) w
one_more t k w f going = rw (after_on w f t k going, run_on w f t k going)

some-stints : (t : ℕ) (ts : List ℕ) (w : Job) → JobFits w → NoneButLast (job_stints (t ∷ ts) w).stops
    → total_of (job_stints (t ∷ ts) w) ≡ job_stint (total (t ∷ ts)) w
unfolding job_stints total last_of NoneButLast
some-stints t [] w f last = rw (add-zero t, add-zero (job_run t w).end.turns)
some-stints t (u ∷ ts) w f last =
    ap (made_before (job_run t w).end.turns) (some-stints u ts (job_after w (job_run t w)) (fit-after w f t) last.1)
    ∙ one_more t (total (u ∷ ts)) w f last.0

-- a stint of no turns leaves a package without stray bits as it was
no-turns : (w : Job) → coded (package_record w.package_words) ≡ w.package_words → job_stint 0 w ≡ record { job = w; turns = 0; stop = 0 }
unfolding turns_of package_record
no-turns w clean = λ x. record { job = record { package_words = clean x; field_words = w.field_words }; turns = 0; stop = 0 }

pub stints-sum : (ts : List ℕ) (w : Job) → JobFits w → coded (package_record w.package_words) ≡ w.package_words → NoneButLast (job_stints ts w).stops
    → total_of (job_stints ts w) ≡ job_stint (total ts) w
unfolding job_stints total last_of
stints-sum [] w f clean last = sym (no-turns w clean)
stints-sum (t ∷ ts) w f clean last = some-stints t ts w f last
