-- The lines of words, as their loop writes them.
use Rattle.std.specs.Prelude.{List, [], ◌∷◌, ◌++◌, ◌≡◌, ℕ, ◌+◌, ◌≤◌, ◌<◌, length, drop, get_or}
use Rattle.std.proofs.Common.{add-one, arith, eq-eqb, ne_eqb, drop_of_length-le}
use Rattle.word_octal.specs.Write.{digits, octal}
use Rattle.word_octal.specs.Writes.{Writes}
use Rattle.word_octal.specs.Laws.Writes.{writes_none, writes_then, writes_three}
use Rattle.word_octal.specs.declared.write.Writer.{Writer}
use Rattle.console_answer.specs.Text.{word_text, words_text}
use Rattle.console_text.specs.Laws.Bytes.{drop-next}

pub writes_zero : (w : Writer) (address word : ℕ) → word ≡ 0 → Writes w (word_text address word) w
unfolding word_text
writes_zero w address word e = rw (eq-eqb word 0 e) (writes_none w)

-- the address, the equals sign, the word and the line feed, one after the other
pub writes-nonzero : {w w₁ w₂ w₃ after : Writer} (address word : ℕ) → 0 < word → Writes w (octal address) w₁ → Writes w₁ (61 ∷ []) w₂
    → Writes w₂ (digits 20 word) w₃ → Writes w₃ (10 ∷ []) after → Writes w (word_text address word) after
unfolding word_text
writes-nonzero address word h a b c d = rw (ne_eqb word 0 (omega arith)) (writes_then a (writes_three b c d))

-- the lines of the words from address i on
abbrev pub words_from : ℕ → List ℕ → List ℕ
words_from i memory = words_text i (drop i memory)

pub words-next : (memory : List ℕ) (i : ℕ) → i < length memory
    → words_from i memory ≡ word_text i (get_or memory i 0) ++ words_from (i + 1) memory
unfolding words_text
words-next memory i h = rw (drop-next memory i h, add-one)

pub words-end : (memory : List ℕ) (i : ℕ) → length memory ≤ i → words_from i memory ≡ []
unfolding words_text
words-end memory i h = rw (drop_of_length-le memory {i = i} h)
