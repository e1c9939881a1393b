-- `exchange_package::package::package_word` meets its contract.
use borrow.Author.Tests.{lt-ltb}
use lib.ListN.{get_or}
use Rattle.central_registers.specs.Registers.{a_of, b_of}
use Rattle.exchange_package.specs.Package.{controls, package_word}
use Rattle.central_record.specs.Laws.Record.{a-width, b-width}
use Rattle.exchange_package.specs.Laws.Package.{control-width}
use Rattle.exchange_package.proofs.Machine.{three-fields}
use Rattle.exchange_package.proofs.package.package_word.Goals as goal

pub returns-then-n-lt8 : goal.returns-then-n-lt8
unfolding package_word
returns-then-n-lt8 c =
    let r = c.args.c in
    let n = c.args.n in
    let h = c.if-n-lt8.true in
    let w = c.requires.1 in
    rw (
      lt-ltb n 8 h,
      c.control.ensures,
    )
    (three-fields (get_or (controls r) n 0) (a_of r.registers n) (b_of r.registers n) (control-width r w n) (a-width r w n h) (b-width r w n h))
