-- The definitions of a stint's line and of a line, by the branches that the code takes.
use Rattle.std.specs.Prelude.{Option, Some, None, Bool, true, false, position, List, ◌≡◌, ℕ, ◌+◌, ◌-◌, eqb, length, take, drop}
use Rattle.std.specs.Cmp.Lexicographic.{pointwise}
use Rattle.std.proofs.Common.{sym, ◌∙◌, arith, length-drop, take_all}
use borrow.Author.Tests.{eq-eqb, ne_eqb}
use Rattle.console_line.specs.Form.{word, number, begins, comma, one, two, stint, line_of}
use Rattle.console_line.specs.Laws.Text.{begins-tested, comma_found, comma_none}
use Rattle.console_text.specs.Names.{words_is, at_is, word_is, job_is, stint_is}
use Rattle.console_line.specs.declared.form.Line.{Line}
use Rattle.console_line.specs.declared.form.Line.TheVariants.{Words, At, Word, Job}

-- the value of a test, by the answer that the code got for it
pub tested : {answer test value : Bool} → answer ≡ test → answer ≡ value → test ≡ value
tested e h = sym e ∙ h

-- the line of one value, by the answer r that the code got for it
module _ (f : ℕ → Line) {line : Option Line} {r value : Option ℕ} (is : line ≡ one f value) (e : r ≡ value) where
  pub said : {v : ℕ} → r ≡ Some v → Some (f v) ≡ line
  said h = sym (is ∙ rw (sym e ∙ h))

  pub not-said : r ≡ None → {result : Option Line} → result ≡ None → result ≡ line
  not-said h n = n ∙ sym (is ∙ rw (sym e ∙ h))

module _ (text : List ℕ) where
  pub stint-none : {r : Option ℕ} → r ≡ position (λ byte. eqb byte 44) text → r ≡ None → None ≡ stint text
  unfolding stint
  stint-none e h = rw (eq-eqb (comma text) (length text) (comma_none text (sym e ∙ h)))

  -- the code lends what follows the comma as a part of the length that is left
  pub stint-some : {r : Option ℕ} {k : ℕ} → r ≡ position (λ byte. eqb byte 44) text → r ≡ Some k
      → stint text ≡ two (number (take k text)) (number (take (length text - (k + 1)) (drop (k + 1) text)))
  unfolding stint
  stint-some {k = k} e h =
      let found = comma_found text (sym e ∙ h) in
      let rest = take_all (length text - (k + 1)) (drop (k + 1) text) (simp length-drop (omega arith)) in
      rw (rest, ← found.0, ne_eqb k (length text) (λ z. omega (arith, found.1)))

module _ (text : List ℕ) where
  -- what `strip_prefix` says of a name: what follows it, or that the text does not begin with it
  abbrev Strips : List ℕ → List ℕ → Type 0 → Type 0
  Strips name rest fits = (pointwise eqb (take (length name) text) name ≡ true) × (rest ≡ drop (length name) text) × fits

  abbrev Differs : List ℕ → Type 0
  Differs name = pointwise eqb (take (length name) text) name ≡ false

  begun : (name : List ℕ) (t : Bool) → pointwise eqb (take (length name) text) name ≡ t → begins name text ≡ t
  begun name t h = sym (begins-tested name text) ∙ h

  module _ {rest : List ℕ} {fits : Type 0} where
    pub line-words : Strips words_is rest fits → line_of text ≡ one Words (number rest)
    unfolding line_of
    line-words s = rw (begun words_is true s.0, s.1)

    module _ (w : Differs words_is) where
      pub line_at : Strips at_is rest fits → line_of text ≡ one At (number rest)
      unfolding line_of
      line_at s = rw (begun words_is false w, begun at_is true s.0, s.1)

      module _ (a : Differs at_is) where
        pub line_word : Strips word_is rest fits → line_of text ≡ one Word (word rest)
        unfolding line_of
        line_word s = rw (begun words_is false w, begun at_is false a, begun word_is true s.0, s.1)

        module _ (o : Differs word_is) where
          pub line-job : Strips job_is rest fits → line_of text ≡ one Job (number rest)
          unfolding line_of
          line-job s = rw (begun words_is false w, begun at_is false a, begun word_is false o, begun job_is true s.0, s.1)

          pub line-stint : Differs job_is → Strips stint_is rest fits → line_of text ≡ stint rest
          unfolding line_of
          line-stint j s =
              rw (begun words_is false w, begun at_is false a, begun word_is false o, begun job_is false j, begun stint_is true s.0, s.1)

  pub line-none : Differs words_is → Differs at_is → Differs word_is → Differs job_is → Differs stint_is → line_of text ≡ None
  unfolding line_of
  line-none w a o j n =
      rw (begun words_is false w, begun at_is false a, begun word_is false o, begun job_is false j, begun stint_is false n)
