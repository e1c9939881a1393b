-- A line that is read has the form of what it says.
use Rattle.std.specs.Prelude.{Option, Some, None, true, ◌≡◌, refl, ℕ, ◌+◌, eqb, length}
use mathlib.Core.List.{List, ◌∷◌, ◌++◌}
use Rattle.std.proofs.Math.Path.{ap}
use Rattle.std.proofs.Common.{◌∙◌}
use Rattle.std.proofs.Math.Numerals.{add-one}
use Rattle.std.proofs.lemmas.Bool.{eqb-false}
use Rattle.std.proofs.Math.ListN.{take, drop}
use Rattle.base_logic.specs.Laws.Choice.{of-cond}
use Rattle.console_line.specs.Form.{word, number, begins, comma, one, two, stint, line_of}
use Rattle.console_text.specs.Names.{words_is, at_is, word_is, job_is, stint_is}
use Rattle.console_line.specs.Laws.Text.{begins-is, comma-is}
use Rattle.console_line.specs.declared.form.Line.{Line}
use Rattle.console_line.specs.declared.form.Line.TheVariants.{Words, At, Word, Job, Stint}

-- a name and the digits of one value
pub record OneValue (name : List ℕ) (value : List ℕ → Option ℕ) (v : ℕ) (text : List ℕ) : Type 0 where
  pub digits : List ℕ
  pub is : text ≡ name ++ digits
  pub has : value digits ≡ Some v

-- a stint's name, its job, a comma and its turns
pub record TwoValues (job turns : ℕ) (text : List ℕ) : Type 0 where
  pub js : List ℕ
  pub ts : List ℕ
  pub is : text ≡ stint_is ++ (js ++ (44 ∷ ts))
  pub has-job : number js ≡ Some job
  pub has-turns : number ts ≡ Some turns

abbrev pub Says : List ℕ → Option Line → Type 0
Says text (Some (Words v)) = OneValue words_is number v text
Says text (Some (At v)) = OneValue at_is number v text
Says text (Some (Word v)) = OneValue word_is word v text
Says text (Some (Job v)) = OneValue job_is number v text
Says text (Some (Stint job turns)) = TwoValues job turns text
Says text None = Unit {0}

module _ (text : List ℕ) where
  says-one : (f : ℕ → Line) (r : Option ℕ) → ((v : ℕ) → r ≡ Some v → Says text (Some (f v))) → Says text (one f r)
  says-one f (Some v) says = says v refl
  says-one f None says = tt

  says_two : (job turns : Option ℕ) → ((j t : ℕ) → job ≡ Some j → turns ≡ Some t → TwoValues j t text) → Says text (two job turns)
  says_two (Some j) (Some t) says = says j t refl refl
  says_two (Some j) None says = tt
  says_two None turns says = tt

  says-stint : (rest : List ℕ) → text ≡ stint_is ++ rest → Says text (stint rest)
  unfolding stint
  says-stint rest e =
      of-cond (Says text) (eqb (comma rest) (length rest)) (λ _. tt)
      (λ t. says_two (number (take (comma rest) rest)) (number (drop (comma rest + 1) rest))
      (λ j k job turns. record {
        js = take (comma rest) rest;
        ts = drop (comma rest + 1) rest;
        is = e ∙ ap (λ (l : List ℕ). stint_is ++ l) (rw add-one (comma-is rest (eqb-false (comma rest) (length rest) t)));
        has-job = job;
        has-turns = turns;
      }))

  one_value : (name : List ℕ) (value : List ℕ → Option ℕ) → begins name text ≡ true
      → (v : ℕ) → value (drop (length name) text) ≡ Some v → OneValue name value v text
  one_value name value b v e = record { digits = drop (length name) text; is = begins-is name text b; has = e }

  pub line-says : Says text (line_of text)
  unfolding line_of
  line-says =
      of-cond (Says text) (begins words_is text) (λ t. says-one Words (number (drop 6 text)) (one_value words_is number t))
      (λ _. of-cond (Says text) (begins at_is text) (λ t. says-one At (number (drop 3 text)) (one_value at_is number t))
      (λ _. of-cond (Says text) (begins word_is text) (λ t. says-one Word (word (drop 5 text)) (one_value word_is word t))
      (λ _. of-cond (Says text) (begins job_is text) (λ t. says-one Job (number (drop 4 text)) (one_value job_is number t))
      (λ _. of-cond (Says text) (begins stint_is text) (λ t. says-stint (drop 6 text) (begins-is stint_is text t)) (λ _. tt)))))
