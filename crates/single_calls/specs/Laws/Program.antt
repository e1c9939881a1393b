-- The call that runs one program: what an accepted call is, and its promises in a reader's words.
use Rattle.std.specs.Prelude.{List, ◌⊎◌, ◌≡◌, refl, ℕ, ◌+◌, ◌≤◌, ◌<◌, length, Ok}
use Rattle.std.proofs.Math.ListN.{get_or}
use Rattle.base_outcome.specs.declared.refusal.Refusal.TheVariants as Because
use Rattle.base_outcome.specs.Laws.Verdict.{either, both-accept, by-fault}
use Rattle.exchange_jump.specs.Jump.{record_at, package_verdict}
use Rattle.exchange_jump.specs.Laws.Verdicts.{package-accepted}
use Rattle.central_record.specs.declared.record.Central.{Central}
use Rattle.base_lists.specs.Overlap.{shares_word}
use Rattle.single_stint.specs.Stint.{stint_of, StintAccepted}
use Rattle.single_calls.specs.Program.{overlap_verdict, owner_verdict, program_verdict, program_answer_by, program_answer}
use Rattle.single_stint.specs.Laws.Stint.{stint-record, stint-outside}
use Rattle.single_calls.specs.Turns.{turns_verdict}
use Rattle.single_calls.specs.Laws.Turns.{turns-accepted}

pub program-accepted : (m : List ℕ) (c : Central) (at n : ℕ) → program_verdict m c at n ≡ Ok tt → StintAccepted m c at
unfolding program_verdict owner_verdict overlap_verdict
program-accepted m c at n e =
    let first = both-accept (turns_verdict m c n) (owner_verdict m at) e in
    let packages = both-accept (package_verdict m at) (overlap_verdict m at) first.1 in
    record {
      host = (turns-accepted m c n first.0).0;
      owner = package-accepted m at packages.0;
      apart = (by-fault (shares_word at 16 (record_at m at).ra (record_at m at).fl) Because.SharedWord (Ok tt) packages.1).0;
    }

module _ (m : List ℕ) (c : Central) (at n : ℕ) where
  -- "hands the central record back as it was, stop included": accepted or refused
  pub program-record : length c.registers ≡ 24 → (program_answer m c at n).answer.central ≡ c
  unfolding program_answer
  program-record count =
      either (λ v. (program_answer_by v m c (stint_of m c at n)).answer.central ≡ c) (program_verdict m c at n)
      (λ e. stint-record m c at (program-accepted m c at n e) n count) (λ r. refl)

  -- no word outside the package and its field changes
  pub program-outside : (i : ℕ) → (i < at) ⊎ (at + 16 ≤ i) → (i < (record_at m at).ra) ⊎ ((record_at m at).ra + (record_at m at).fl ≤ i)
      → get_or (program_answer m c at n).memory i 0 ≡ get_or m i 0
  unfolding program_answer
  program-outside i p f =
      either (λ v. get_or (program_answer_by v m c (stint_of m c at n)).memory i 0 ≡ get_or m i 0) (program_verdict m c at n)
      (λ e. stint-outside m c at (program-accepted m c at n e) n i p f) (λ r. refl)
