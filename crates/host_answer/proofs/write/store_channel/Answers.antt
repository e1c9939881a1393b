-- `host_answer::write::store_channel` meets its contract.
use native.Mathlib.Omega.{arith}
use lib.ListN.{length-set}
use Rattle.std.proofs.Common.{◌∙◌}
use Rattle.host_answer.specs.Laws.Write.{places, flag-byte}
use Rattle.host_answer.proofs.write.store_channel.Goals as goal

pub bounds-out-at-2 : goal.bounds-out-at-2
bounds-out-at-2 c = simp length-set (omega arith)

pub bounds-out-at-3 : goal.bounds-out-at-3
bounds-out-at-3 c = simp length-set (omega arith)

pub bounds-out-at-4 : goal.bounds-out-at-4
bounds-out-at-4 c = simp length-set (omega arith)

pub returns : goal.returns
returns c =
    let channel = c.args.c in
    let active = c.from.ensures ∙ flag-byte channel.active in
    let full = c.from-2.ensures ∙ flag-byte channel.full in
    let mark = c.from-3.ensures ∙ flag-byte channel.mark in
    record { is = rw (active, full, mark, (places c.args.at).0, (places c.args.at).1.0, (places c.args.at).1.1) }
