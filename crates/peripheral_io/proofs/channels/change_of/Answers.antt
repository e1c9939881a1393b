-- `peripheral_io::channels::change_of` meets its contract.
use mathlib.Core.Path.{◌≡◌}
use native.Mathlib.Omega.{arith}
use Rattle.peripheral_io.specs.Channels.{change_of}
use Rattle.peripheral_io.proofs.channels.change_of.Goals as goal

pub returns-in_default : goal.returns-in_default
unfolding change_of
returns-in_default c =
    let e : c.args.k ≡ 7 = omega arith in
    rw (e, c.changed-in_default.ensures, c.onward-in_default.ensures, c.function-in_default.ensures, c.second.ensures.is)
