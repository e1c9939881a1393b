-- `console_calls::run::write_end` meets its contract.
use mathlib.Core.Path.{◌≡◌, ◌∙◌, refl}
use lib.ListN.{length}
use native.Mathlib.Omega.{arith}
use borrow.Author.Rules.{rules}
use Rattle.base_lists.specs.Laws.Written.{wrote_then}
use Rattle.console_calls.specs.Laws.Print.{room-left}
use Rattle.console_calls.proofs.run.write_end.Goals as goal

pub write_stints-requires : goal.write_stints-requires
write_stints-requires c =
    let pre = rw c.in-Ok.is at c.requires.0 in
    let most = pre.stints refl in
    let turns : length c.turns.result ≡ 256 = search rules in
    let stops : length c.stops.result ≡ 256 = search rules in
    record { jobs_in_bounds = (omega (arith, turns, most), omega (arith, stops, most)); jobs_in_bounds_2 = omega (arith, c.requires.1, pre.room, most) }

pub write_words-requires : goal.write_words-requires
write_words-requires c =
    let pre = rw c.in-Ok.is at c.requires.0 in
    let wrote = rw c.requires.1 at c.write_stints.ensures.wrote in
    room-left _ _ _ c.args.memory.now wrote pre.room (pre.stints refl) pre.memory

pub write_refused-requires : goal.write_refused-requires
write_refused-requires c = omega (arith, c.requires.1, c.requires.0.room)

pub returns-in-Ok : goal.returns-in-Ok
returns-in-Ok c =
    record {
      same_buffer = c.write_words.ensures.same_buffer ∙ c.write_stints.ensures.same_buffer;
      same_length = c.write_words.ensures.same_length ∙ c.write_stints.ensures.same_length;
      wrote = rw (c.in-Ok.is, ← c.turns.ensures, ← c.stops.ensures) (wrote_then c.write_stints.ensures.wrote c.write_words.ensures.wrote);
    }

pub returns-in-Err : goal.returns-in-Err
returns-in-Err c =
    record {
      same_buffer = c.write_refused.ensures.same_buffer;
      same_length = c.write_refused.ensures.same_length;
      wrote = rw (c.in-Err.is, ← c.number.ensures) c.write_refused.ensures.wrote;
    }
