-- `shared_fault::owners::pair_fault` meets its contract.
use Rattle.shared_verdict.specs.Laws.Owners.{package-inside, package-end, field_end}
use Rattle.shared_fault.specs.Fault.{pair_fault}
use Rattle.shared_fault.proofs.owners.pair_fault.Goals as goal

pub load-second-requires : goal.load-second-requires
load-second-requires c =
    package-inside c.args.p.now.memory.now c.args.p.now.jobs.now _ c.requires.1 c.args.p.now.inside.packages

pub shares_word-requires : goal.shares_word-requires
shares_word-requires c =
    let pre = c.requires in
    rw c.load-second.ensures (package-end c.args.p.now.inside _ pre.0, field_end c.args.p.now.inside _ pre.1)

pub returns-then-shares_word : goal.returns-then-shares_word
unfolding pair_fault
returns-then-shares_word c = rw (← c.load-second.ensures, ← c.shares_word.ensures, c.if-shares_word.true)

pub shares_word-requires-2 : goal.shares_word-requires-2
shares_word-requires-2 c =
    let pre = c.requires in
    (package-end c.args.p.now.inside _ pre.0, package-end c.args.p.now.inside _ pre.1)

pub returns-then-shares_word-2 : goal.returns-then-shares_word-2
unfolding pair_fault
returns-then-shares_word-2 c =
    rw (
      ← c.load-second.ensures,
      ← c.shares_word.ensures,
      c.if-shares_word.false,
      ← c.shares_word-2.ensures,
      c.if-shares_word-2.true,
    )

pub returns : goal.returns
unfolding pair_fault
returns c =
    rw (
      ← c.load-second.ensures,
      ← c.shares_word.ensures,
      c.if-shares_word.false,
      ← c.shares_word-2.ensures,
      c.if-shares_word-2.false,
    )
