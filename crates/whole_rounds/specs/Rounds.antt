-- Rounds and runs. "Round" is document 01's word for one turn of every processor.
use Rattle.std.specs.Prelude.{Bool, not, ◌&&◌, cond, List, ℕ, zero, suc, ◌+◌, ◌%◌, eqb, set}
use Rattle.base_lists.specs.Indexed.{all_below}
use Rattle.single_calls.specs.RecordCalls as Host
use Rattle.peripheral_machine.specs.Numbers.{processor_of, central_of, central_stop, clock_of}
use Rattle.peripheral_machine.specs.Apply.{put_back}
use Rattle.peripheral_machine.specs.Machine.{Machine, machine, CentralSide}
use Rattle.whole_processors.specs.Processors.{processors_turned}

abbrev pub after_central_turn : List ℕ → Host.CentralMachine → CentralSide
after_central_turn s o = put_back s o.memory o.central

-- "central turn"
unfoldable pub central_turn_of : List ℕ → List ℕ → List ℕ → CentralSide
central_turn_of c x s = after_central_turn s (Host.turned_once c (central_of x s))

-- "clock + 1 modulo 4096"
unfoldable pub ticked : List ℕ → List ℕ
ticked s = set s 83 ((clock_of s + 1) % 4096)

abbrev pub round_ended : List ℕ → CentralSide → Machine
round_ended m o = machine m o.central o.registers (ticked o.numbers)

abbrev pub after_processors : Machine → Machine
after_processors h = round_ended h.peripheral (central_turn_of h.central h.registers h.numbers)

-- "A round: peripheral processors in rising number, central turn, clock + 1 modulo 4096."
unfoldable pub round_of : ℕ → Machine → Machine
round_of k h = after_processors (processors_turned k 0 h)

abbrev pub is_stopped : List ℕ → ℕ → Bool
is_stopped s n = not (eqb (processor_of s n).stop 0)

-- the central processor and each of the k peripheral ones
unfoldable pub all_stopped : ℕ → List ℕ → Bool
all_stopped k s = not (eqb (central_stop s) 0) && all_below k (is_stopped s)

-- the machine after several rounds, and how many were made
pub record RoundsRun : Type 0 where
  pub machine : Machine
  pub rounds : ℕ

abbrev pub rounds_ran : Machine → ℕ → RoundsRun
rounds_ran h n = record { machine = h; rounds = n }

-- n rounds before what o made
abbrev pub rounds_before : ℕ → RoundsRun → RoundsRun
rounds_before n o = rounds_ran o.machine (n + o.rounds)

-- "A run ends after the rounds asked, or before a round in which all are stopped, and gives the number of rounds made."
unfoldable pub rounds_of : ℕ → ℕ → Machine → RoundsRun
rounds_of zero k h = rounds_ran h 0
rounds_of (suc n) k h = cond (all_stopped k h.numbers) (rounds_ran h 0) (rounds_before 1 (rounds_of n k (round_of k h)))
