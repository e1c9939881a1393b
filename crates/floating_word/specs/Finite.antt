-- Operands and results that are finite, as document 02, (f) and (g), say.
use Rattle.std.specs.Prelude.{ℕ, ◌^◌, ◌<◌, false, ◌≡◌}
use Rattle.floating_word.specs.Special.{is_infinite, is_indefinite}

-- a finite word: neither infinite nor indefinite
pub record FiniteWord (x : ℕ) : Type 0 where
  pub width : x < 2 ^ 60
  pub not_infinite : is_infinite x ≡ false
  pub not-indefinite : is_indefinite x ≡ false
