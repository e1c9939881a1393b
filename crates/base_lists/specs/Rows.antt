-- Numbers in rows of several.
use Rattle.std.specs.Prelude.{List, [], ◌++◌, ℕ, zero, suc}

-- n lists, one after the other
unfoldable pub rows : ℕ → (ℕ → List ℕ) → List ℕ
rows zero row = []
rows (suc n) row = rows n row ++ row n
