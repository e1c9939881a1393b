-- Each form is read as what it says.
use Rattle.std.specs.Prelude.{Option, Some, List, [], ◌∷◌, ◌++◌, ◌≡◌, refl}
use Rattle.std.proofs.Math.Path.{ap}
use Rattle.std.proofs.Common.{◌∙◌, arith}
use Prim.Native.Nat.{ℕ, suc, ◌+◌, ◌-◌, ◌*◌, ◌≤◌}
use borrow.Author.Tests.{ne_eqb}
use Rattle.std.proofs.Math.ListN.{length, length-append}
use Rattle.std.proofs.Math.Seq.{take-append_seam, drop-append-add}
use Rattle.base_logic.specs.Laws.Choice.{of-cond}
use Rattle.word_octal.specs.Read.{is_digit}
use Rattle.word_octal.specs.Text.{value_after, value_of}
use Rattle.word_octal.specs.Laws.Text.{digit-bounds, not-a-number}
use Rattle.console_line.specs.Form.{begins, comma, one, stint, line_of}
use Rattle.console_text.specs.Names.{words_is, at_is, word_is, job_is, stint_is}
use Rattle.console_line.specs.Laws.Value.{word-is, number_is}
use Rattle.console_line.specs.declared.form.Line.TheVariants.{Words, At, Word, Job, Stint}

module _ (digits : List ℕ) {v : ℕ} (e : value_of digits ≡ Some v) where
  pub word_read : length digits ≡ 20 → line_of (word_is ++ digits) ≡ Some (Word v)
  unfolding line_of begins
  word_read h = ap (one Word) (word-is digits h ∙ e)

  module _ (h : 1 ≤ length digits) (k : length digits ≤ 6) where
    pub words-read : line_of (words_is ++ digits) ≡ Some (Words v)
    unfolding line_of begins
    words-read = ap (one Words) (number_is digits h k ∙ e)

    pub at_read : line_of (at_is ++ digits) ≡ Some (At v)
    unfolding line_of begins
    at_read = ap (one At) (number_is digits h k ∙ e)

    pub job_read : line_of (job_is ++ digits) ≡ Some (Job v)
    unfolding line_of begins
    job_read = ap (one Job) (number_is digits h k ∙ e)

-- no octal digit is a comma, so the first comma stands after them
comma-after : (digits text : List ℕ) (v : ℕ) {w : ℕ} → value_after v digits ≡ Some w → comma (digits ++ (44 ∷ text)) ≡ length digits
unfolding value_after comma
comma-after [] text v e = refl
comma-after (byte ∷ digits) text v {w} e =
    of-cond (λ (r : Option ℕ). r ≡ Some w → comma (byte ∷ digits ++ (44 ∷ text)) ≡ suc (length digits)) (is_digit byte)
    (λ t f. rw (ne_eqb byte 44 (λ z. omega (arith, (digit-bounds byte t).0)))
    (ap suc (comma-after digits text (v * 8 + (byte - 48)) f)))
    (λ t f. absurd (not-a-number f)) e

module _ (js ts : List ℕ) {job turns : ℕ} where
  pub stint-read : value_of js ≡ Some job → 1 ≤ length js → length js ≤ 6 → value_of ts ≡ Some turns → 1 ≤ length ts → length ts ≤ 6
      → line_of (stint_is ++ (js ++ (44 ∷ ts))) ≡ Some (Stint job turns)
  unfolding line_of begins stint
  stint-read j h k t m n =
      let l : length (js ++ (44 ∷ ts)) ≡ length js + suc (length ts) = length-append js (44 ∷ ts) in
      rw (
        comma-after js ts 0 j,
        ne_eqb (length js) (length (js ++ (44 ∷ ts))) (λ z. omega (arith, l)),
        take-append_seam js (44 ∷ ts),
        drop-append-add js (44 ∷ ts) 1,
        number_is js h k,
        number_is ts m n,
        j,
        t,
      )
