-- No line is longer than its digits can make it.
use Rattle.std.specs.Prelude.{List, [], ◌∷◌, ◌++◌, ℕ, suc, ◌+◌, ◌*◌, ◌≤◌, eqb, length}
use Rattle.std.proofs.Common.{arith, length-append}
use Rattle.base_logic.specs.Laws.Choice.{of-cond}
use Rattle.word_octal.specs.Write.{octal}
use Rattle.word_octal.specs.Laws.Write.{length_digits, length_octal}
use Rattle.console_answer.specs.Text.{stint_text, stints_text, word_text, words_text, refused_text}
use Rattle.console_text.specs.Names.{refused_is}
use Rattle.console_text.specs.Line.{decimal, line}
use Rattle.console_text.specs.Laws.Decimal.{length_decimal}

-- what follows the name of a line
pub length_octal_end : (v : ℕ) → length (octal v ++ (10 ∷ [])) ≤ 23
length_octal_end v = simp length-append (omega (arith, length_octal v))

pub length_octal_line : (name : List ℕ) (v : ℕ) → length (line name (octal v)) ≤ length name + 23
length_octal_line name v = simp length-append (omega (arith, length_octal v))

pub length_decimal_line : (name : List ℕ) (n : ℕ) → length (line name (decimal n)) ≤ length name + 3
length_decimal_line name n = simp length-append (omega (arith, length_decimal 2 n))

pub length-refused : (number : ℕ) → length (refused_text number) ≤ 11
unfolding refused_text
length-refused number = length_decimal_line refused_is number

pub length-stint : (index job turns stop : ℕ) → length (stint_text index job turns stop) ≤ 93
unfolding stint_text
length-stint index job turns stop =
    simp length-append (omega (arith, length_octal index, length_octal job, length_octal turns, length_decimal 2 stop))

pub length-stints : (index : ℕ) (jobs turns stops : List ℕ) → length (stints_text index jobs turns stops) ≤ 93 * length jobs
unfolding stints_text
length-stints index [] turns stops = omega arith
length-stints index (job ∷ jobs) [] stops = omega arith
length-stints index (job ∷ jobs) (made ∷ turns) [] = omega arith
length-stints index (job ∷ jobs) (made ∷ turns) (stop ∷ stops) =
    simp length-append (omega (arith, length-stint index job made stop, length-stints (suc index) jobs turns stops))

pub length-word : (address word : ℕ) → length (word_text address word) ≤ 44
unfolding word_text
length-word address word =
    of-cond (λ (l : List ℕ). length l ≤ 44) (eqb word 0) (λ e. omega arith)
    (λ e. simp (length-append, length_digits) (omega (arith, length_octal address)))

pub length-words : (address : ℕ) (memory : List ℕ) → length (words_text address memory) ≤ 44 * length memory
unfolding words_text
length-words address [] = omega arith
length-words address (word ∷ memory) =
    simp length-append (omega (arith, length-word address word, length-words (suc address) memory))
