-- `central_record::record::em_fits` meets its contract.
use Prim.Native.Nat.{◌/◌, ◌%◌, ◌^◌}
use lib.Bits.{and_mask}
use lib.Dec.{lit≤}
use lib.Pow.{shl_exact}
use Rattle.word_arithmetic.specs.Laws.Bits.{bits-lt}
use Rattle.central_record.specs.Record.{em_fits}
use Rattle.central_record.proofs.record.em_fits.Goals as goal

pub returns : goal.returns
unfolding em_fits
returns c =
    let em = c.args.em in
    rw (and_mask (em / 2 ^ 12) 3, shl_exact {a = em / 2 ^ 12 % 2 ^ 3} 3 12 64 (bits-lt em 12 3) (lit≤ tt))
