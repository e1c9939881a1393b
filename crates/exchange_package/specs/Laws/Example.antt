-- The package of document 01's console example, before and after its stint, and the record that it holds.
use Rattle.std.specs.Prelude.{false, List, [], ◌∷◌, ◌++◌, ◌≡◌, refl, ℕ, replicate}
use Rattle.central_record.specs.declared.record.Central.{Central}
use Rattle.base_lists.specs.Indexed.{all_below, tabulate}
use Rattle.central_record.specs.Record.{em_fits}
use Rattle.exchange_package.specs.Package.{package_word, coded, register_in, package_record, has_stray}

-- the lines of the input, and zero words after them
abbrev pub package_before : List ℕ
package_before = 0 ∷ 0o20000000000000 ∷ 0o4000000000000 ∷ replicate 13 0

abbrev pub record_before : Central
record_before = record { p = 0; ra = 0o20; fl = 4; em = 0; registers = replicate 24 0; stop = 0 }

-- the lines 0, 1, 2, 6 and 16 of the output: A6 is 3 and X6 is 5
abbrev pub package_after : List ℕ
package_after =
    0o1000000000000 ∷ 0o20000000000000 ∷ 0o4000000000000 ∷ 0 ∷ 0 ∷ 0 ∷ 0o3000000 ∷ replicate 7 0 ++ (5 ∷ 0 ∷ [])

abbrev pub example_record : Central
example_record =
    record { p = 1; ra = 0o20; fl = 4; em = 0; registers = replicate 6 0 ++ (3 ∷ replicate 15 0 ++ (5 ∷ 0 ∷ [])); stop = 0 }

pub record Example : Type 0 where
  pub loaded : package_record package_before ≡ record_before
  pub stored : coded example_record ≡ package_after
  pub loaded-again : package_record package_after ≡ example_record
  pub no_stray : has_stray package_before ≡ false

pub example : Example
unfolding tabulate all_below em_fits package_word coded register_in package_record has_stray
example = record { loaded = refl; stored = refl; loaded-again = refl; no_stray = refl }
