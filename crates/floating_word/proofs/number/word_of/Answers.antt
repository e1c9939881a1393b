-- `floating_word::number::word_of` meets its contract.
use mathlib.Core.Path.{◌∙◌}
use borrow.Author.Tests.{lt-ltb, le-ltb}
use Rattle.floating_word.specs.Number.{word_of}
use Rattle.floating_word.proofs.Machine.{above-size, above-size-lt}
use Rattle.floating_word.proofs.number.word_of.Goals as goal

pub returns-then-biased-fall : goal.returns-then-biased-fall
unfolding word_of
returns-then-biased-fall c = simp (lt-ltb _ _ c.if-biased-fall.true)

pub returns-then-e-gt-LARGEST : goal.returns-then-e-gt-LARGEST
unfolding word_of
returns-then-e-gt-LARGEST c = simp (le-ltb _ _ c.if-biased-fall.false, lt-ltb _ _ c.if-e-gt-LARGEST.true) c.infinity_word.ensures

pub signed-requires : goal.signed-requires
signed-requires c = above-size-lt _ _ _ c.if-e-gt-LARGEST.false c.requires c.stored_for.ensures

pub returns : goal.returns
unfolding word_of
returns c =
    let if1 = c.if-biased-fall in
    let if2 = c.if-e-gt-LARGEST in
    let pre = c.requires in
    let stored-for = c.stored_for in
    simp (le-ltb _ _ if1.false, le-ltb _ _ if2.false)
    (c.signed.ensures ∙ rw (above-size _ _ _ if2.false (pre) stored-for.ensures, stored-for.ensures))
