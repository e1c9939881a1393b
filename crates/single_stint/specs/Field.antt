-- Turns of a central record on its field.
use Rattle.std.specs.Prelude.{List, ℕ}
use Rattle.central_apply.specs.State.{state}
use Rattle.central_turn.specs.Turn.{stop_number, Run, turns_of}
use Rattle.central_field.specs.declared.address.Bounds.{Bounds}
use Rattle.base_lists.specs.Parts.{part, splice}
use Rattle.central_record.specs.declared.record.Central.{Central}
use Rattle.single_stint.specs.declared.field.Ran.{Ran}

abbrev pub bounds_of : Central → Bounds
bounds_of c = record { ra = c.ra; fl = c.fl; em = c.em }

-- memory, and the record with the turns made
pub record RanMemory : Type 0 where
  pub memory : List ℕ
  pub end : Ran

abbrev pub ran_to : List ℕ → Ran → RanMemory
ran_to m o = record { memory = m; end = o }

abbrev pub record_after : Central → Run → Central
record_after c o =
    record { p = o.end.p; ra = c.ra; fl = c.fl; em = c.em; registers = o.state.registers; stop = stop_number o.end.stop }

abbrev pub after_run : List ℕ → Central → Run → RanMemory
after_run m c o =
    ran_to (splice m c.ra c.fl o.state.field) (record { central = record_after c o; turns = o.end.turns })

-- up to n turns of a record on the words of a field
abbrev pub turns_on : ℕ → Central → List ℕ → Run
turns_on n c f = turns_of n (bounds_of c) c.p (state c.registers f)

-- "A stint is handed its field alone, to read and to write." The field is "the words from RA up to, but without, RA + FL"
abbrev pub field_run : List ℕ → Central → ℕ → Run
field_run m c n = turns_on n c (part m c.ra c.fl)

unfoldable pub ran_on : List ℕ → Central → ℕ → RanMemory
ran_on m c n = after_run m c (field_run m c n)
