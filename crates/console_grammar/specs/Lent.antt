-- What is lent to a reader of an input.
use Rattle.std.specs.Prelude.{◌≡◌}
use Rattle.console_grammar.specs.Held.{Lists, lists}
use Rattle.console_grammar.specs.declared.lent.Lent.{Lent}

-- the lists
abbrev pub lists_in : Lent → Lists
lists_in lent = lists lent.jobs.now lent.stint_jobs.now lent.stint_turns.now

-- the same memory and lists are lent, whatever is in them
pub record SameLent (before after : Lent) : Type 0 where
  pub memory : after.memory.ghost_name ≡ before.memory.ghost_name
  pub jobs : after.jobs.ghost_name ≡ before.jobs.ghost_name
  pub stint_jobs : after.stint_jobs.ghost_name ≡ before.stint_jobs.ghost_name
  pub stint_turns : after.stint_turns.ghost_name ≡ before.stint_turns.ghost_name
