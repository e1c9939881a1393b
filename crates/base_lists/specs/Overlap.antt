-- Parts of memory with a word in common.
use Rattle.std.specs.Prelude.{Bool, ◌&&◌, ℕ, ◌+◌, ltb}

-- the n words from a up and the k words from b up share a word: neither part is empty, and each begins before the other ends
unfoldable pub shares_word : ℕ → ℕ → ℕ → ℕ → Bool
shares_word a n b k = ltb 0 n && ltb 0 k && ltb a (b + k) && ltb b (a + n)
