-- The table by its rule. Document 02, (b): "a fixed table of 512 entries, one for each nine-bit beginning, with its rule shown over the whole
-- sheet".
use Rattle.std.specs.Prelude.{Bool, ◌&&◌, cond, List, [], ◌∷◌, ℕ, suc, ◌+◌, ◌*◌, ◌/◌, ◌%◌, eqb}
use Rattle.central_codes.specs.Codes.{is_fit, parcels_of}

-- the entry of the code c with this i: its length in bits, and 64 more where it is unfit; document 02, (b): "an unfit code's length goes by
-- document 01's list too"
unfoldable pub entry_of : ℕ → ℕ → ℕ
entry_of c i = 15 * parcels_of c + cond (is_fit c i) 0 64

-- the entry of the nine-bit beginning n, which is the code and i
abbrev pub entry_at : ℕ → ℕ
entry_at n = entry_of (n / 8) (n % 8)

-- the entries from the beginning n on are those of the rule, and the last is that of the beginning 777
unfoldable pub follows_from : ℕ → List ℕ → Bool
follows_from n [] = eqb n 0o1000
follows_from n (e ∷ t) = eqb e (entry_at n) && follows_from (suc n) t

-- the one test of the whole sheet
abbrev pub follows_rule : List ℕ → Bool
follows_rule t = follows_from 0 t
