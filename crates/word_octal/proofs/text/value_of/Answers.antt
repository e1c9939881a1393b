-- `word_octal::text::value_of` meets its contract.
use mathlib.Core.Path.{sym, ◌∙◌}
use lib.ListN.{get_or}
use native.Mathlib.Omega.{arith}
use Rattle.word_octal.specs.Laws.Text.{digit-small, reading-end, reading-room, reading-stop, reading-next}
use Rattle.word_octal.proofs.text.value_of.Goals as goal

pub overflow_mul-value : goal.overflow_mul-value
overflow_mul-value c = omega (arith, reading-room c.loop-byte.invariant (omega arith))

pub overflow_add-value : goal.overflow_add-value
overflow_add-value c =
    let small = digit-small (get_or c.args.text.now c.loop-byte.byte-index 0) (sym c.octal_digit.ensures ∙ c.in_ok-value.was) in
    omega (arith, small, reading-room c.loop-byte.invariant (omega arith))

pub returns-in_err-value : goal.returns-in_err-value
returns-in_err-value c =
    c.from_residual.ensures ∙ reading-stop c.loop-byte.invariant c.loop-byte-test.true (sym c.octal_digit.ensures ∙ c.in_err-value.was)

pub loop-byte-preserved : goal.loop-byte-preserved
loop-byte-preserved c =
    reading-next c.loop-byte.invariant c.loop-byte-test.true (sym c.octal_digit.ensures ∙ c.in_ok-value.was)

pub returns : goal.returns
returns c = reading-end c.loop-byte.invariant c.loop-byte-test.false
