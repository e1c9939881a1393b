-- The steps of `fill`'s loop, for the check to find: its invariant has a name that a tactic takes as it stands.
use Rattle.std.proofs.Common.{List, ◌≡◌, ℕ, ◌+◌, ◌≤◌, ◌<◌, length, get_or, set}
use Rattle.console_reader.specs.LineBytes.{LineFilled}
use Rattle.console_reader.specs.Laws.LineBytes.{Filling, filling-start, filling-byte, filling-over, filled-to-line-feed, filled-to-end}

unfoldable pub FillingOn : List ℕ → ℕ → List ℕ → ℕ → ℕ → List ℕ → ℕ → Type 0
FillingOn bytes from line₀ n₀ at line n = Filling bytes from line₀ n₀ at line n

module _ (bytes : List ℕ) (from : ℕ) (line₀ : List ℕ) (n₀ : ℕ) where
  pub started : n₀ ≤ 32 → length line₀ ≡ 32 → FillingOn bytes from line₀ n₀ from line₀ n₀
  unfolding FillingOn
  started room long = filling-start room long

  module _ (at : ℕ) (line : List ℕ) (n : ℕ) where
    pub line_feed : FillingOn bytes from line₀ n₀ at line n → at < length bytes → get_or bytes at 0 ≡ 10
        → LineFilled bytes from line₀ n₀ line (record { at = at; length = n })
    unfolding FillingOn
    line_feed g h e = filled-to-line-feed g h e

    pub to_end : (end : ℕ) → FillingOn bytes from line₀ n₀ at line n → length bytes ≤ at → end ≡ at
        → LineFilled bytes from line₀ n₀ line (record { at = end; length = n })
    unfolding FillingOn
    to_end end g h e = rw e (filled-to-end g h)

    pub byte_kept : FillingOn bytes from line₀ n₀ at line n → at < length bytes → (get_or bytes at 0 ≡ 10 → ⊥) → n < 32
        → FillingOn bytes from line₀ n₀ (at + 1) (set line n (get_or bytes at 0)) (n + 1)
    unfolding FillingOn
    byte_kept g h e room = filling-byte g h e room

    pub byte_over : FillingOn bytes from line₀ n₀ at line n → at < length bytes → (get_or bytes at 0 ≡ 10 → ⊥) → 32 ≤ n
        → FillingOn bytes from line₀ n₀ (at + 1) line n
    unfolding FillingOn
    byte_over g h e full = filling-over g h e full

pub ruleset filling_steps = (started, line_feed, to_end, byte_kept, byte_over)
