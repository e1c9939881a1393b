-- `shared_calls::stints::StintsEnd::stops` meets its contract.
use Rattle.std.proofs.Common.{rules, ◌≡◌, ◌∙◌, ℕ, get_or, None}
use Rattle.central_turn.specs.Turn.{stop_number}
use Rattle.base_lists.specs.Laws.Tested.{made-tabulated}
use Rattle.shared_calls.specs.Laws.Stints.{tabulate-map}
use Rattle.shared_calls.specs.declared.stints.StintResult.{StintResult}
use Rattle.shared_calls.proofs.stints.StintsEnd.stops.Goals as goal

pub returns : goal.returns
returns c =
    let none : StintResult = record { turns = 0; stop = None } in
    let results = c.args.self.now.results in
    let entry = λ (i : ℕ). stop_number (get_or results i none).stop in
    made-tabulated _ entry (λ f. f.0.now ≡ c.args.self.now) (λ p q i y h call. search rules) _ _ 256 0 (search rules) c.from_fn.ensures.items
    ∙ tabulate-map (λ (r : StintResult). stop_number r.stop) none 256 results (search rules)
