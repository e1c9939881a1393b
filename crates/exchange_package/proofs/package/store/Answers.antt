-- `exchange_package::package::store` meets its contract.
use Rattle.std.proofs.Common.{rules, ◌≡◌, ◌∙◌}
use Rattle.base_lists.specs.Laws.Tested.{made-tabulated}
use Rattle.exchange_package.specs.Package.{package_word, coded}
use Rattle.exchange_package.proofs.package.store.Goals as goal

pub returns : goal.returns
unfolding coded
returns c =
    let made = made-tabulated _ (package_word c.args.c) (λ f. f.0.now ≡ c.args.c) (λ p q i y h call. search rules) _ _ 16 0 (search rules) c.from_fn-words.ensures.items in
    c.copy_from_slice.ensures.after ∙ made
