-- A stint of one program. "Stint" is document 01's word for a program's turns between an exchange in and an exchange out.
use Rattle.std.specs.Prelude.{false, List, ◌≡◌, ℕ}
use Rattle.exchange_jump.specs.Jump.{record_at, exchanged}
use Rattle.exchange_jump.specs.Accepted.{HostAccepted, PackageAccepted}
use Rattle.central_record.specs.declared.record.Central.{Central}
use Rattle.base_lists.specs.Overlap.{shares_word}
use Rattle.central_turn.specs.Turn.{stop_number}
use Rattle.single_stint.specs.Field.{RanMemory, ran_on}
use Rattle.single_stint.specs.declared.stint.StintEnd.{StintEnd}

-- the record, the turns made, and the stop's number, or 0
pub record StintLeft : Type 0 where
  pub central : Central
  pub turns : ℕ
  pub stop : ℕ

pub record StintMemory : Type 0 where
  pub memory : List ℕ
  pub end : StintLeft

abbrev pub stint_left : StintEnd → StintLeft
stint_left o = record { central = o.central; turns = o.turns; stop = stop_number o.stop }

abbrev pub stint_to : List ℕ → StintEnd → StintMemory
stint_to m o = record { memory = m; end = stint_left o }

-- the record with another stop
abbrev pub with_stop : Central → ℕ → Central
with_stop c stop = record { p = c.p; ra = c.ra; fl = c.fl; em = c.em; registers = c.registers; stop = stop }

-- after the exchange in and the turns, the exchange out; the record's stop is put back
abbrev pub exchanged_out : Central → ℕ → RanMemory → StintMemory
exchanged_out c at o =
    record {
      memory = (exchanged o.memory o.end.central at).memory;
      end =
          record {
            central = with_stop (exchanged o.memory o.end.central at).central c.stop;
            turns = o.end.turns;
            stop = o.end.central.stop;
          };
    }

-- "A stint exchanges in at its job's package, makes up to its turns, ends early at a stop, exchanges out."
unfoldable pub stint_of : List ℕ → Central → ℕ → ℕ → StintMemory
stint_of m c at n = exchanged_out c at (ran_on (exchanged m c at).memory (exchanged m c at).central n)

-- what is asked of memory, record and package for a stint: no number refuses them
pub record StintAccepted (m : List ℕ) (c : Central) (at : ℕ) : Type 0 where
  pub host : HostAccepted m c
  pub owner : PackageAccepted m at
  pub apart : shares_word at 16 (record_at m at).ra (record_at m at).fl ≡ false
