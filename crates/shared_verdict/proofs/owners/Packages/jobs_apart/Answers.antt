-- `shared_verdict::owners::Packages::jobs_apart` meets its contract.
use native.Mathlib.Omega.{arith}
use Rattle.shared_verdict.specs.Laws.Owners.{package-inside, package-end, field_end}
use Rattle.shared_verdict.proofs.owners.Packages.jobs_apart.Goals as goal

pub load-first-requires : goal.load-first-requires
load-first-requires c =
    package-inside c.args.self.now.memory.now c.args.self.now.jobs.now _ c.requires.0 c.args.self.now.inside.packages

pub load-second-requires : goal.load-second-requires
load-second-requires c =
    package-inside c.args.self.now.memory.now c.args.self.now.jobs.now _ c.requires.1 c.args.self.now.inside.packages

pub shares_word-requires : goal.shares_word-requires
shares_word-requires c =
    let pre = c.requires in
    rw c.load-second.ensures (package-end c.args.self.now.inside _ pre.0, omega (arith, field_end c.args.self.now.inside _ pre.1))

pub shares_word-requires-else-i-j : goal.shares_word-requires-else-i-j
shares_word-requires-else-i-j c =
    let pre = c.requires in
    (package-end c.args.self.now.inside _ pre.0, package-end c.args.self.now.inside _ pre.1)

pub shares_word-requires-then-not-shares_word-2 : goal.shares_word-requires-then-not-shares_word-2
shares_word-requires-then-not-shares_word-2 c =
    let pre = c.requires in
    rw (c.load-first.ensures, c.load-second.ensures) (field_end c.args.self.now.inside _ pre.0, field_end c.args.self.now.inside _ pre.1)
