use Rattle.std.proofs.Common.{rules, arith}
use Rattle.std.specs.Int.Bits.{bit_or}
use Rattle.std.proofs.lemmas.Iterator.{YieldsList-from_slice}
use Rattle.std.proofs.lemmas.Iterator.Consumers.{fold_from_yields_List}
use Rattle.central_record.specs.Laws.Widths.{all-joined}
use Rattle.whole_verdict.specs.Verdict.{short_words_fit}
use Rattle.whole_verdict.proofs.verdict.short_words_fit.Goals as goal

pub returns : goal.returns
unfolding short_words_fit
returns c =
    let joined = fold_from_yields_List _ bit_or 0 c.fold.result c.fold.ensures.ran (YieldsList-from_slice c.args.m.now cc) (λ x b q k. search rules) in
    rw joined (all-joined 12 c.args.m.now (omega arith))
