-- The field test.
use Rattle.std.specs.Prelude.{cond, ◌≡◌, ℕ, ◌+◌, ◌-◌, ◌≤◌, ◌<◌, ltb, Option, Some, None}
use Rattle.central_field.specs.declared.address.Bounds.{Bounds}
use Rattle.central_field.specs.declared.address.Relative.{Relative}
use Rattle.central_field.specs.declared.address.Absolute.{Absolute}

-- RA, FL and EM
abbrev pub bounds : ℕ → ℕ → ℕ → Bounds
bounds ra fl em = record { ra = ra; fl = fl; em = em }

-- "A relative address turns absolute only through the field test: it is below FL, and RA is added."
unfoldable pub place_of : Bounds → Relative → Option Absolute
place_of b a = cond (ltb a.0 b.fl) (Some (record { 0 = b.ra + a.0 })) None

abbrev pub relative : ℕ → Relative
relative n = record { 0 = n }

-- where the word at an absolute address stands in the field
abbrev pub index_of : Bounds → Absolute → ℕ
index_of b a = a.0 - b.ra

-- an absolute address that the field test gave
abbrev pub Within : Bounds → Option Absolute → Type 0
Within b (Some a) = (b.ra ≤ a.0) × (a.0 < b.ra + b.fl)
Within b None = Unit {0}

pub record Index (b : Bounds) (a : Absolute) (n : ℕ) : Type 0 where
  pub is : n ≡ index_of b a
  pub below : n < b.fl
