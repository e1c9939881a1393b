-- Every word is printed whole: after an accepted schedule each has 60 bits, and its 20 digits say all of it.
use Rattle.std.specs.Prelude.{Some, ◌++◌, ◌≡◌, ℕ, ◌^◌, ◌<◌, get_or}
use Rattle.word_octal.specs.Laws.Again.{read-text}
use Rattle.word_octal.specs.Laws.Write.{length_digits}
use Rattle.word_octal.specs.Write.{digits}
use Rattle.central_record.specs.Laws.Record.{word_width}
use Rattle.exchange_jump.specs.Accepted.{HostAccepted}
use Rattle.shared_schedule.specs.Isolation.{ScheduleAccepted}
use Rattle.shared_schedule.specs.Laws.Projection.{stints-keep}
use Rattle.shared_schedule.proofs.Refusals.{accepted-lists, accepted-ready}
use Rattle.shared_schedule.specs.Laws.Stint.{still-ready}
use Rattle.shared_schedule.specs.Schedule.{Schedule, schedule_end}
use Rattle.console_line.specs.Form.{line_of}
use Rattle.console_text.specs.Names.{word_is}
use Rattle.console_line.specs.Laws.Reads.{word_read}
use Rattle.console_line.specs.declared.form.Line.TheVariants.{Word}

host-kept : (s : Schedule) → ScheduleAccepted s → HostAccepted (schedule_end s).memory (schedule_end s).central
host-kept s a =
    let ready = accepted-ready s a in
    stints-keep s.jobs HostAccepted (λ m c r j l t h. (still-ready m c s.jobs r j l t).host) s.stint_jobs s.stint_turns s.memory s.central
    ready (accepted-lists s a).listed ready.host

pub end-words : (s : Schedule) → ScheduleAccepted s → (i : ℕ) → get_or (schedule_end s).memory i 0 < 2 ^ 60
end-words s a = word_width (schedule_end s).memory (host-kept s a).words

-- the digits that are printed of a word, in a line of an input, are that word again
pub word-again : (w : ℕ) → w < 2 ^ 60 → line_of (word_is ++ digits 20 w) ≡ Some (Word w)
word-again w h = word_read (digits 20 w) (read-text 20 w h) (length_digits 20 w)
