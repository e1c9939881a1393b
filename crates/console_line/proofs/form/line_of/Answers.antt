-- `console_line::form::line_of` meets its contract.
use mathlib.Core.Path.{sym, ◌∙◌}
use Rattle.console_line.specs.Laws.Branches.{said, not-said, line-words, line_at, line_word, line-job, line-stint, line-none}
use Rattle.console_line.specs.declared.form.Line.TheVariants.{Words, At, Word, Job}
use Rattle.console_line.proofs.form.line_of.Goals as goal

pub returns-in_err-number_of : goal.returns-in_err-number_of
returns-in_err-number_of c =
    let line = line-words c.args.text.now c.in-Some.ensures.cases in
    not-said Words line c.number_of.ensures c.in_err-number_of.was c.from_residual.ensures

pub returns-in-Some : goal.returns-in-Some
returns-in-Some c =
    let line = line-words c.args.text.now c.in-Some.ensures.cases in
    said Words line c.number_of.ensures c.in_ok-number_of.was

pub returns-in_err-number_of-2 : goal.returns-in_err-number_of-2
returns-in_err-number_of-2 c =
    let line = line_at c.args.text.now c.in_default.ensures.cases c.in-Some-strip_prefix.ensures.cases in
    not-said At line c.number_of-in-Some-strip_prefix.ensures c.in_err-number_of-2.was c.from_residual-in_err-number_of-2.ensures

pub returns-in-Some-strip_prefix : goal.returns-in-Some-strip_prefix
returns-in-Some-strip_prefix c =
    let line = line_at c.args.text.now c.in_default.ensures.cases c.in-Some-strip_prefix.ensures.cases in
    said At line c.number_of-in-Some-strip_prefix.ensures c.in_ok-number_of-2.was

pub returns-in_err-word_of : goal.returns-in_err-word_of
returns-in_err-word_of c =
    let line = line_word c.args.text.now c.in_default.ensures.cases c.in_default-strip_prefix.ensures.cases c.in-Some-strip_prefix-2.ensures.cases in
    not-said Word line c.word_of.ensures c.in_err-word_of.was c.from_residual-in_err-word_of.ensures

pub returns-in-Some-strip_prefix-2 : goal.returns-in-Some-strip_prefix-2
returns-in-Some-strip_prefix-2 c =
    let line = line_word c.args.text.now c.in_default.ensures.cases c.in_default-strip_prefix.ensures.cases c.in-Some-strip_prefix-2.ensures.cases in
    said Word line c.word_of.ensures c.in_ok-word_of.was

pub returns-in_err-number_of-3 : goal.returns-in_err-number_of-3
returns-in_err-number_of-3 c =
    let line = line-job c.args.text.now c.in_default.ensures.cases c.in_default-strip_prefix.ensures.cases c.in_default-strip_prefix-2.ensures.cases c.in-Some-strip_prefix-3.ensures.cases in
    not-said Job line c.number_of-in-Some-strip_prefix-3.ensures c.in_err-number_of-3.was c.from_residual-in_err-number_of-3.ensures

pub returns-in-Some-strip_prefix-3 : goal.returns-in-Some-strip_prefix-3
returns-in-Some-strip_prefix-3 c =
    let line = line-job c.args.text.now c.in_default.ensures.cases c.in_default-strip_prefix.ensures.cases c.in_default-strip_prefix-2.ensures.cases c.in-Some-strip_prefix-3.ensures.cases in
    said Job line c.number_of-in-Some-strip_prefix-3.ensures c.in_ok-number_of-3.was

pub returns-in-Some-strip_prefix-4 : goal.returns-in-Some-strip_prefix-4
returns-in-Some-strip_prefix-4 c = c.stint_of.ensures ∙ sym (line-stint c.args.text.now c.in_default.ensures.cases c.in_default-strip_prefix.ensures.cases c.in_default-strip_prefix-2.ensures.cases c.in_default-strip_prefix-3.ensures.cases c.in-Some-strip_prefix-4.ensures.cases)

pub returns : goal.returns
returns c = sym (line-none c.args.text.now c.in_default.ensures.cases c.in_default-strip_prefix.ensures.cases c.in_default-strip_prefix-2.ensures.cases c.in_default-strip_prefix-3.ensures.cases c.in_default-strip_prefix-4.ensures.cases)
