-- Numbers 1, 5 and 6: what they refuse, and what they let by.
use Rattle.std.specs.Prelude.{true, List, ◌≡◌, ℕ, eqb, leb, length, Ok}
use Rattle.std.proofs.Common.{eq-eqb, le-leb, eqb-true, leb-true}
use Rattle.base_logic.specs.Laws.Tests.{both}
use Rattle.base_outcome.specs.Laws.Verdict.{both-accept, by-test}
use Rattle.console_grammar.specs.Held.{Lists, Room, job_entries, stint_entries}
use Rattle.console_reader.specs.Fed.{ReaderReady}
use Rattle.console_reader.specs.Reader.{lists_long, reader_fits, reader_verdict}
use Rattle.console_reader.specs.declared.reader.Reader.{Reader}

room-by-tests : (m : List ℕ) (l : Lists) → eqb (length m) 4096 ≡ true → lists_long l ≡ true → Room m l
room-by-tests m l e f =
    let f₁ = both (eqb (length l.jobs) job_entries) _ f in
    let f₂ = both (eqb (length l.stint_jobs) stint_entries) (eqb (length l.stint_turns) stint_entries) f₁.1 in
    record {
      memory = eqb-true (length m) 4096 e;
      jobs = eqb-true (length l.jobs) job_entries f₁.0;
      stint_jobs = eqb-true (length l.stint_jobs) stint_entries f₂.0;
      stint_turns = eqb-true (length l.stint_turns) stint_entries f₂.1;
    }

pub accepted-memory : (r : Reader) (m : List ℕ) (l : Lists) → reader_verdict r m l ≡ Ok tt → length m ≡ 4096
unfolding reader_verdict
accepted-memory r m l e = eqb-true (length m) 4096 (by-test (eqb (length m) 4096) _ _ (both-accept _ _ e).0).0

-- what no number refuses may be read
pub accepted-reader : (r : Reader) (m : List ℕ) (l : Lists) → reader_verdict r m l ≡ Ok tt → length r.line ≡ 32 → ReaderReady r m l
unfolding reader_verdict
accepted-reader r m l e long =
    let p = r.progress in
    let e₁ = both-accept _ _ e in
    let e₂ = both-accept _ _ e₁.1 in
    let c₁ = both (leb p.words 4096) _ (by-test (reader_fits r) _ _ e₂.0).0 in
    let c₂ = both (leb p.jobs job_entries) _ c₁.1 in
    let c₃ = both (leb p.stints stint_entries) (leb r.length 32) c₂.1 in
    record {
      progress =
          record {
            words = leb-true p.words 4096 c₁.0;
            jobs = leb-true p.jobs job_entries c₂.0;
            stints = leb-true p.stints stint_entries c₃.0;
          };
      room = room-by-tests m l (by-test (eqb (length m) 4096) _ _ e₁.0).0 (by-test (lists_long l) _ _ e₂.1).0;
      begun = leb-true r.length 32 c₃.1;
      long = long;
    }

-- and a reader with its room is not refused
pub ready-accepted : (r : Reader) (m : List ℕ) (l : Lists) → ReaderReady r m l → reader_verdict r m l ≡ Ok tt
unfolding reader_verdict
ready-accepted r m l k =
    rw (
      eq-eqb (length m) 4096 k.room.memory,
      eq-eqb (length l.jobs) job_entries k.room.jobs,
      eq-eqb (length l.stint_jobs) stint_entries k.room.stint_jobs,
      eq-eqb (length l.stint_turns) stint_entries k.room.stint_turns,
      le-leb r.progress.words 4096 k.progress.words,
      le-leb r.progress.jobs job_entries k.progress.jobs,
      le-leb r.progress.stints stint_entries k.progress.stints,
      le-leb r.length 32 k.begun,
    )
