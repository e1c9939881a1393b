-- The console's answer to an input, as bytes.
use Rattle.std.specs.Prelude.{List, ◌++◌, ℕ, replicate, Ok, Err}
use Rattle.base_outcome.specs.Numbers.{refusal_number}
use Rattle.base_outcome.specs.declared.refusal.Refusal.TheVariants as Refusal
use Rattle.base_outcome.specs.Verdict.{Verdict}
use Rattle.central_record.specs.declared.record.Central.{Central}
use Rattle.shared_schedule.specs.Schedule.{Schedule, schedule_end}
use Rattle.shared_schedule.specs.Refusals.{schedule_verdict}
use Rattle.console_grammar.specs.Reading.{Request, Reading, no_line, readable, unreadable, reading_of}
use Rattle.console_answer.specs.Text.{stints_text, words_text, refused_text}

-- the record that the console lends to a schedule: every value 0, so the processor is running
abbrev pub zero_record : Central
zero_record = record { p = 0; ra = 0; fl = 0; em = 0; registers = replicate 24 0; stop = 0 }

abbrev pub schedule_in : Request → Schedule
schedule_in q =
    record { memory = q.memory; central = zero_record; jobs = q.jobs; stint_jobs = q.stint_jobs; stint_turns = q.stint_turns }

-- "four lines a stint (index, job, turns made, stop or 0), then each nonzero word as address=word, by rising address";
-- "jobs and stints are numbered from 0"; "A refusal prints only refused= and its number"
abbrev pub printed : Verdict → Schedule → List ℕ
printed (Ok _) s =
    stints_text 0 s.stint_jobs (schedule_end s).turns (schedule_end s).stops ++ words_text 0 (schedule_end s).memory
printed (Err r) s = refused_text (refusal_number r)

abbrev pub unreadable_line : List ℕ
unreadable_line = refused_text (refusal_number Refusal.UnreadableLine)

-- "only 16 is tested ahead of the rest"
unfoldable pub output_on : Reading → List ℕ
output_on no_line = unreadable_line
output_on unreadable = unreadable_line
output_on (readable part q) = printed (schedule_verdict (schedule_in q)) (schedule_in q)

-- the whole output for a whole input
unfoldable pub output_of : List ℕ → List ℕ
output_of bytes = output_on (reading_of bytes)
