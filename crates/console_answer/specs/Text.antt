-- The lines of the console's answer, as bytes. "Words have 20 digits, other values no leading zeros."
use Rattle.std.specs.Prelude.{cond, List, [], ◌∷◌, ◌++◌, ℕ, suc, eqb}
use Rattle.word_octal.specs.Write.{digits, octal}
use Rattle.console_text.specs.Line.{decimal, line}
use Rattle.console_text.specs.Names.{stint_is, job_is, turns_is, stop_is, refused_is}

-- "four lines a stint (index, job, turns made, stop or 0)"
unfoldable pub stint_text : ℕ → ℕ → ℕ → ℕ → List ℕ
stint_text index job turns stop =
    line stint_is (octal index) ++ (line job_is (octal job) ++ (line turns_is (octal turns) ++ line stop_is (decimal stop)))

-- the stints from this index on, by their jobs, turns made and stops
unfoldable pub stints_text : ℕ → List ℕ → List ℕ → List ℕ → List ℕ
stints_text index (job ∷ jobs) (turns ∷ all_turns) (stop ∷ stops) =
    stint_text index job turns stop ++ stints_text (suc index) jobs all_turns stops
stints_text index [] all_turns stops = []
stints_text index (job ∷ jobs) [] stops = []
stints_text index (job ∷ jobs) (turns ∷ all_turns) [] = []

-- "each nonzero word as address=word, by rising address"
unfoldable pub word_text : ℕ → ℕ → List ℕ
word_text address word = cond (eqb word 0) [] (octal address ++ (61 ∷ (digits 20 word ++ (10 ∷ []))))

-- the words of a memory from this address on
unfoldable pub words_text : ℕ → List ℕ → List ℕ
words_text address [] = []
words_text address (word ∷ memory) = word_text address word ++ words_text (suc address) memory

-- "A refusal prints only refused= and its number"
unfoldable pub refused_text : ℕ → List ℕ
refused_text number = line refused_is (decimal number)
