-- `whole_calls::call::run` meets its contract.
use Rattle.std.proofs.Common.{rules, ◌≡◌, sym, ◌∙◌, Err}
use Rattle.whole_calls.specs.Call.{left, run_given, run_answer}
use Rattle.whole_calls.specs.Laws.Call.{carried-out, machine-refused}
use Rattle.whole_calls.proofs.call.run.Goals as goal

pub make_rounds-requires : goal.make_rounds-requires
make_rounds-requires c = sym c.run_verdict.ensures ∙ c.in_ok-run_verdict.was

pub returns : goal.returns
unfolding run_answer
returns c = carried-out run_given _ _ _ (sym c.run_verdict.ensures ∙ c.in_ok-run_verdict.was) (left _ _ _) c.make_rounds.ensures

pub returns-in_err-run_verdict : goal.returns-in_err-run_verdict
unfolding run_answer
returns-in_err-run_verdict c =
    let e : c.from_residual.result ≡ Err c.in_err-run_verdict.field-0.0 = search rules in
    rw e (machine-refused run_given _ _ _ _ (sym c.run_verdict.ensures ∙ c.in_err-run_verdict.was))
