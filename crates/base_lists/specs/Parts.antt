-- Parts of a list of words.
use Rattle.std.specs.Prelude.{ℕ, List, ◌++◌, take, drop}

-- the n words from a up
abbrev pub part : List ℕ → ℕ → ℕ → List ℕ
part m a n = take n (drop a m)

-- m with the n words from a up replaced by v
abbrev pub splice : List ℕ → ℕ → ℕ → List ℕ → List ℕ
splice m a n v = take a m ++ (v ++ drop n (drop a m))
