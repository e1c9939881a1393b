-- `console_reason::whole::reason` meets its contract.
use native.Mathlib.Omega.{arith}
use borrow.Author.Rules.{rules}
use Rattle.console_reason.specs.Laws.Whole.{whole-reason, whole-tracked}
use Rattle.console_reason.proofs.whole.reason.Goals as goal

pub returns : goal.returns
returns c =
    whole-reason _ _ _ _ _ c.new.ensures
    (record { memory = search rules; jobs = search rules; stint_jobs = search rules; stint_turns = search rules })
    (omega (arith, c.well_formed.0.0, c.well_formed.0.1)) c.in_ok-tracker.ensures.tracked c.explain.ensures.explained

pub returns-in_err-tracker : goal.returns-in_err-tracker
returns-in_err-tracker c =
    absurd (whole-tracked _ _ _ _ c.new.ensures
    (record { memory = search rules; jobs = search rules; stint_jobs = search rules; stint_turns = search rules })
    (omega (arith, c.well_formed.0.0, c.well_formed.0.1)) c.in_err-tracker.ensures.tracked)
