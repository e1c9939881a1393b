-- `central_record::record::registers_fit` meets its contract.
use Rattle.std.proofs.Common.{rules, tests, refl, ◌∙◌}
use Rattle.std.proofs.lemmas.Iterator.{YieldsList-from_range}
use Rattle.std.proofs.lemmas.Iterator.Search.{all_from_yields_List}
use Rattle.base_lists.specs.Laws.Tested.{all-range}
use Rattle.central_record.specs.Record.{register_fits, registers_fit}
use Rattle.central_record.proofs.record.registers_fit.Goals as goal

pub returns : goal.returns
unfolding registers_fit
returns c =
    let test = register_fits c.args.registers in
    all_from_yields_List test _ _ _ c.all.ensures.ran (YieldsList-from_range 0 24 24 refl refl) (λ x b q k. search (rules, tests)) ∙ all-range test 24
