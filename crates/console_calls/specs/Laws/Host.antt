-- No readable input meets the host's refusals, 1, 3 and 5: it is accepted, or refused with one of 6 to 12.
use Rattle.std.specs.Prelude.{true, ◌&&◌, List, ◌≡◌, refl, ℕ, ◌≤◌, leb, length, Ok, Err}
use Rattle.std.proofs.Common.{subst, arith, le-leb, leb-true}
use Rattle.base_outcome.specs.Numbers.{refusal_number}
use Rattle.base_outcome.specs.declared.refusal.Refusal.{Refusal}
use Rattle.base_outcome.specs.Verdict.{Verdict}
use Rattle.base_logic.specs.Laws.Choice.{of-cond}
use Rattle.base_logic.specs.Laws.Tests.{both}
use Rattle.base_lists.specs.Indexed.{all_below}
use Rattle.central_record.specs.Record.{em_fits, registers_fit, record_fits, host_verdict}
use Rattle.central_record.specs.Laws.Record.{of-word-width}
use Rattle.exchange_jump.specs.Laws.Verdicts.{of-host-accepted}
use Rattle.base_outcome.specs.Order.{or_else}
use Rattle.exchange_jump.specs.Jump.{package_inside, package_clean, field_inside}
use Rattle.shared_schedule.specs.Refusals.{lists_fit, jobs_listed, turns_fit, lists_verdict, every_job, all_apart, owners_verdict, schedule_verdict}
use Rattle.console_grammar.specs.Reading.{Request, Part, readable, reading_of}
use Rattle.console_grammar.specs.Laws.Memory.{InputMemory}
use Rattle.console_grammar.proofs.Memory.{input-memory}
use Rattle.console_calls.specs.Console.{zero_record, schedule_in}

-- the record that the console lends fits a memory of any length
zero-fits : (n : ℕ) → record_fits n zero_record ≡ true
unfolding record_fits em_fits registers_fit all_below
zero-fits n = rw (le-leb 0 n (omega arith))

-- and a memory that an input can ask for is accepted with it
memory-accepted : (m : List ℕ) → InputMemory m → host_verdict m zero_record ≡ Ok tt
memory-accepted m f =
    of-host-accepted m zero_record
    (record {
      nonempty = f.at_least;
      at_most = omega (arith, f.at_most);
      words = of-word-width m f.below;
      fits = zero-fits (length m);
    })

-- accepted, or refused with a number of the schedule writer's (6 to 8) or of the package owners' (9 to 12)
abbrev Numbered : Verdict → Type 0
Numbered (Ok _) = Unit {0}
Numbered (Err r) = (leb 6 (refusal_number r) && leb (refusal_number r) 12) ≡ true

lists-numbered : (jobs js ts : List ℕ) → Numbered (lists_verdict jobs js ts)
unfolding lists_verdict
lists-numbered jobs js ts =
    of-cond Numbered (lists_fit jobs js ts)
    (λ f. of-cond Numbered (jobs_listed jobs js)
    (λ l. of-cond Numbered (turns_fit ts) (λ t. tt) (λ t. refl))
    (λ l. refl))
    (λ f. refl)

owners-numbered : (m jobs : List ℕ) → Numbered (owners_verdict m jobs)
unfolding owners_verdict
owners-numbered m jobs =
    of-cond Numbered (every_job jobs (package_inside m))
    (λ i. of-cond Numbered (every_job jobs (package_clean m))
    (λ c. of-cond Numbered (every_job jobs (field_inside m))
    (λ f. of-cond Numbered (all_apart m jobs) (λ a. tt) (λ a. refl))
    (λ f. refl))
    (λ c. refl))
    (λ i. refl)

-- the first refusal of two verdicts is one of theirs
either-numbered : (v w : Verdict) → Numbered v → Numbered w → Numbered (or_else v w)
either-numbered (Ok _) w h g = g
either-numbered (Err r) w h g = h

module _ (input : List ℕ) (part : Part) (q : Request) (e : reading_of input ≡ readable part q) where
  -- 1, 3 and 5 do not refuse a readable input
  pub no-host-refusal : host_verdict q.memory zero_record ≡ Ok tt
  no-host-refusal = memory-accepted q.memory (input-memory input part q e)

  verdict-numbered : Numbered (schedule_verdict (schedule_in q))
  unfolding schedule_verdict
  verdict-numbered =
      rw no-host-refusal
      (either-numbered (lists_verdict q.jobs q.stint_jobs q.stint_turns) (owners_verdict q.memory q.jobs)
      (lists-numbered q.jobs q.stint_jobs q.stint_turns) (owners-numbered q.memory q.jobs))

  -- so 6 to 12 are the numbers that a readable input can be refused with
  pub refusals-of-inputs : (r : Refusal) → schedule_verdict (schedule_in q) ≡ Err r → (6 ≤ refusal_number r) × (refusal_number r ≤ 12)
  refusals-of-inputs r f =
      let b = both (leb 6 (refusal_number r)) (leb (refusal_number r) 12) (subst Numbered f verdict-numbered) in
      (leb-true 6 (refusal_number r) b.0, leb-true (refusal_number r) 12 b.1)
