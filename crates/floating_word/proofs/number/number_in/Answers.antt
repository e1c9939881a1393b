-- `floating_word::number::number_in` meets its contract.
use native.Mathlib.Omega.{arith}
use Rattle.floating_word.specs.Number.{number_in}
use Rattle.floating_word.specs.Laws.Number.{number_fits}
use Rattle.floating_word.proofs.number.number_in.Goals as goal

pub returns-clause-fits : goal.returns-clause-fits
unfolding number_in
returns-clause-fits c =
    record { size-lt = omega arith; biased-lt = rw (c.biased_from.ensures, c.magnitude-m.ensures) (number_fits c.args.x c.requires).biased-lt }
