-- An instruction, a turn, and a run of turns. "Turn" is document 01's word for the run of one instruction word.
use Rattle.std.specs.Prelude.{cond, ℕ, zero, suc, ◌+◌, ltb, get_or, Option, Some, None, is_none}
use Rattle.base_outcome.specs.declared.stop.CentralStop.TheVariants as Because
use Rattle.base_outcome.specs.Numbers.{central_stop_number}
use Rattle.base_outcome.specs.declared.stop.CentralStop.{CentralStop}
use Rattle.central_codes.specs.Codes.{is_fit, parcels_of}
use Rattle.central_decode.specs.Instruction.{decoded}
use Rattle.central_effect.specs.Effects.{effect_of}
use Rattle.central_decode.specs.declared.instruction.Instruction.{Instruction}
use Rattle.central_apply.specs.declared.apply.Step.TheVariants as Then
use Rattle.central_apply.specs.State.{State}
use Rattle.central_field.specs.Address.{place_of, relative, index_of}
use Rattle.central_apply.specs.Apply.{After, after, applied}
use Rattle.central_field.specs.declared.address.Bounds.{Bounds}
use Rattle.central_apply.specs.declared.apply.Step.{Step}
use Rattle.central_turn.specs.declared.turn.TurnEnd.{TurnEnd}
use Rattle.central_turn.specs.declared.turn.RunEnd.{RunEnd}
use Rattle.central_field.specs.declared.address.Absolute.{Absolute}

-- stops 4 and 5 come before the instruction does anything
abbrev pub stopped_by : State → CentralStop → After
stopped_by s c = after s.registers s.field (Then.Stop c)

-- stop "4 is tested before 5", a 30-bit code begun in the last of four parcels
unfoldable pub ran_at : State → Bounds → ℕ → ℕ → Instruction → After
ran_at s b p place q =
    cond (is_fit q.code q.i)
    (cond (ltb 4 (place + parcels_of q.code)) (stopped_by s Because.LastParcel)
    (applied s b (effect_of s.registers q b.em p) (place + parcels_of q.code)))
    (stopped_by s Because.UnfitCode)

-- the instruction at this place of the word w, which stands at p
abbrev pub step_of : State → Bounds → ℕ → ℕ → ℕ → After
step_of s b p w place = ran_at s b p place (decoded w place)

-- the number that a record holds for a stop, or 0 for none
abbrev pub stop_number : Option CentralStop → ℕ
stop_number None = 0
stop_number (Some c) = central_stop_number c

-- the state after a turn, with P and the stop, if any
pub record Turn : Type 0 where
  pub state : State
  pub end : TurnEnd

abbrev pub turned : State → TurnEnd → Turn
turned s e = record { state = s; end = e }

abbrev pub turn_end : ℕ → Option CentralStop → TurnEnd
turn_end p stop = record { p = p; stop = stop }

-- how a turn goes on after a step; "At a stop P stays at that word and the rest is dropped."
abbrev pub go_on : ℕ → (State → ℕ → Turn) → State → Step → Turn
go_on p rest s (Then.Next place) = rest s place
go_on p rest s (Then.Branch target) = turned s (turn_end target None)
go_on p rest s (Then.Stop c) = turned s (turn_end p (Some c))

-- the parcels of the word w at p from this place on, in at most the given number of instructions; "at the word's end (P + 1)"
unfoldable pub parcels_run : ℕ → Bounds → ℕ → ℕ → State → ℕ → Turn
parcels_run zero b p w s place = turned s (turn_end (p + 1) None)
parcels_run (suc most) b p w s place =
    cond (ltb place 4) (go_on p (parcels_run most b p w) (step_of s b p w place).state (step_of s b p w place).step)
    (turned s (turn_end (p + 1) None))

-- the word w at p, which has four parcels
abbrev pub word_run : Bounds → ℕ → ℕ → State → Turn
word_run b p w s = parcels_run 4 b p w s 0

abbrev pub fetched : Bounds → ℕ → State → Option Absolute → Turn
fetched b p s (Some a) = word_run b p (get_or s.field (index_of b a) 0) s
fetched b p s None = turned s (turn_end p (Some Because.FetchOutside))

-- "A turn fetches the word at P once"; stop 3 where that is outside the field
unfoldable pub turn_of : Bounds → ℕ → State → Turn
turn_of b p s = fetched b p s (place_of b (relative p))

-- the state after several turns, with P, the stop, if any, and the turns made
pub record Run : Type 0 where
  pub state : State
  pub end : RunEnd

abbrev pub ran : State → RunEnd → Run
ran s e = record { state = s; end = e }

abbrev pub run_end : ℕ → Option CentralStop → ℕ → RunEnd
run_end p stop turns = record { p = p; stop = stop; turns = turns }

-- n turns before what o made
abbrev pub turns_before : ℕ → Run → Run
turns_before n o = ran o.state (run_end o.end.p o.end.stop (n + o.end.turns))

abbrev pub after_turn : (ℕ → State → Run) → Turn → Run
after_turn rest t =
    cond (is_none t.end.stop) (turns_before 1 (rest t.end.p t.state)) (ran t.state (run_end t.end.p t.end.stop 1))

-- up to n turns, ended early by a stop. "The count of turns made is the number of turns the definition takes, the stopping one included."
unfoldable pub turns_of : ℕ → Bounds → ℕ → State → Run
turns_of zero b p s = ran s (run_end p None 0)
turns_of (suc n) b p s = after_turn (turns_of n b) (turn_of b p s)
