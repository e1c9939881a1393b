-- `shared_verdict::lists::jobs_listed` meets its contract.
use Rattle.shared_schedule.specs.Refusals.{jobs_listed}
use Rattle.shared_verdict.proofs.lists.jobs_listed.Goals as goal

pub returns : goal.returns
unfolding jobs_listed
returns c = c.all_below.ensures
