-- `central_record::record::words_fit` meets its contract.
use Rattle.std.proofs.Common.{rules, arith}
use Rattle.std.specs.Int.Bits.{bit_or}
use Rattle.std.proofs.lemmas.Iterator.{YieldsList-from_slice}
use Rattle.std.proofs.lemmas.Iterator.Consumers.{fold_from_yields_List}
use Rattle.central_record.specs.Laws.Widths.{all-joined}
use Rattle.central_record.specs.Record.{words_fit}
use Rattle.central_record.proofs.record.words_fit.Goals as goal

pub returns : goal.returns
unfolding words_fit
returns c =
    let joined = fold_from_yields_List _ bit_or 0 c.fold.result c.fold.ensures.ran (YieldsList-from_slice c.args.m.now cc) (λ x b q k. search rules) in
    rw joined (all-joined 60 c.args.m.now (omega arith))
