-- The widths of a number's parts. That every word's parts have them is proved in `Laws.Number`.
use Rattle.std.specs.Prelude.{◌^◌, ◌<◌}
use Rattle.floating_word.specs.declared.number.Number.{Number}

pub record NumberFits (x : Number) : Type 0 where
  pub size-lt : x.size < 2 ^ 48
  pub biased-lt : x.biased < 2 ^ 11
