-- The twelve marked results of document 01 as one table, each as what a turn does. Laws.Marked proves that all hold.
use Rattle.std.specs.Prelude.{Some, None, ◌≡◌, List, ℕ, ◌+◌, ◌-◌, ◌*◌, ◌^◌, ◌≤◌, ◌<◌, get_or, set}
use Rattle.word_arithmetic.specs.Sums.{complement}
use Rattle.base_outcome.specs.declared.stop.CentralStop.TheVariants as Because
use Rattle.central_field.specs.declared.address.Bounds.{Bounds}
use Rattle.central_registers.specs.Registers.{b_of, x_of, set_b, set_x}
use Rattle.central_apply.specs.State.{State, state}
use Rattle.central_turn.specs.Turn.{stop_number, turned, turn_end, word_run, turn_of}
use Rattle.peripheral_machine.specs.Numbers.{processor_of, advanced}
use Rattle.peripheral_machine.specs.Machine.{Machine, machine}
use Rattle.peripheral_codes.specs.Addresses.{word_at, onward}
use Rattle.peripheral_turn.specs.Turn.{peripheral_turn_of}

-- a word of the 15-bit instruction with this code, i, j and k, and of three that pass (46000)
abbrev pub instruction_word : ℕ → ℕ → ℕ → ℕ → ℕ
instruction_word code i j k = (code * 8 ^ 3 + i * 8 ^ 2 + j * 8 + k) * 2 ^ 45 + 0o460004600046000

-- a turn of that word, at any P below FL, changes the registers before it to those after it, and nothing in the field; it ends at P + 1 without
-- a stop, whatever RA, FL, EM and the field's other words are
pub record TurnLeaves (code i j k : ℕ) (before after : List ℕ) : Type 0 where
  pub turn : i < 8 → j < 8 → k < 8
      → (b : Bounds) (p : ℕ) (f : List ℕ) → p < b.fl → get_or f p 0 ≡ instruction_word code i j k
      → turn_of b p (state before f) ≡ turned (state after f) (turn_end (p + 1) None)

-- peripheral processor n is running, and w is the word at its P
pub record Runs (h : Machine) (n w : ℕ) : Type 0 where
  pub running : (processor_of h.numbers n).stop ≡ 0
  pub word : word_at h.peripheral (processor_of h.numbers n).p ≡ w

-- processor n one word on, with this memory and A; nothing else changes
abbrev pub one_word_on : Machine → ℕ → List ℕ → ℕ → Machine
one_word_on h n m a = machine m h.central h.registers (advanced h.numbers n (onward (processor_of h.numbers n).p 1) a)

pub record Marked : Type 0 where
  -- "3 plus its complement is +0", at both widths: 66, Bj + Bk to Bi, and 36, Xj + Xk to Xi
  pub three-18 : (i j k : ℕ) (r : List ℕ) → b_of r j ≡ 3 → b_of r k ≡ complement 18 3 → TurnLeaves 0o66 i j k r (set_b r i 0)
  pub three-60 : (i j k : ℕ) (r : List ℕ) → x_of r j ≡ 3 → x_of r k ≡ complement 60 3 → TurnLeaves 0o36 i j k r (set_x r i 0)
  -- "777777 + 777777 is 777777"
  pub minus-zeros : (i j k : ℕ) (r : List ℕ) → b_of r j ≡ 0o777777 → b_of r k ≡ 0o777777 → TurnLeaves 0o66 i j k r (set_b r i 0o777777)
  -- "777776 + 3 is 2"
  pub carried-round : (i j k : ℕ) (r : List ℕ) → b_of r j ≡ 0o777776 → b_of r k ≡ 3 → TurnLeaves 0o66 i j k r (set_b r i 2)
  -- "21 by 77 of a negative word is all ones": of every negative word
  pub right-by-77 : (i : ℕ) (r : List ℕ) → 2 ^ 59 ≤ x_of r i → x_of r i < 2 ^ 60 → TurnLeaves 0o21 i 7 7 r (set_x r i 0o77777777777777777777)
  -- "43 with 03 is 7 and nineteen zeros"; and, so that both digits count, with 30 it is eight 7s and twelve zeros
  pub mask-of-03 : (i : ℕ) (r : List ℕ) → TurnLeaves 0o43 i 0 3 r (set_x r i 0o70000000000000000000)
  pub mask-of-30 : (i : ℕ) (r : List ℕ) → TurnLeaves 0o43 i 3 0 r (set_x r i 0o77777777000000000000)
  -- "47 of all ones is 74": of Xk, to Xi
  pub count-of-ones : (i j k : ℕ) (r : List ℕ) → x_of r k ≡ 0o77777777777777777777 → TurnLeaves 0o47 i j k r (set_x r i 0o74)
  -- "SHN 06 of 400001 is 000140": 10, of A
  pub shn-06 : (h : Machine) (n : ℕ) → Runs h n 0o1006 → (processor_of h.numbers n).a ≡ 0o400001
      → peripheral_turn_of h n ≡ one_word_on h n h.peripheral 0o000140
  -- "SHN 71 of it 004000"
  pub shn-71 : (h : Machine) (n : ℕ) → Runs h n 0o1071 → (processor_of h.numbers n).a ≡ 0o400001
      → peripheral_turn_of h n ≡ one_word_on h n h.peripheral 0o004000
  -- "SOD of 0 leaves A 777776, memory 7776": 37, where the word at d is 0
  pub sod : (h : Machine) (n d : ℕ) → d < 64 → Runs h n (0o3700 + d) → word_at h.peripheral d ≡ 0
      → peripheral_turn_of h n ≡ one_word_on h n (set h.peripheral d 0o7776) 0o777776
  -- "010 to K = 2 at P = 0 writes 04000000010000000000, P is 3": where 2 is below FL, and whatever stands in the word's other half
  pub return-jump : (b : Bounds) (r f : List ℕ) (rest : ℕ) → 2 < b.fl → rest < 2 ^ 30 → get_or f 0 0 ≡ 0o01000000020000000000 + rest
      → turn_of b 0 (state r f) ≡ turned (state r (set f 2 0o04000000010000000000)) (turn_end 3 None)
  -- "26 of 17760000000000000005 gives 5 and 777776": of Xk, to Xi and Bj
  pub unpacked : (i j k : ℕ) (r : List ℕ) → x_of r k ≡ 0o17760000000000000005 → TurnLeaves 0o26 i j k r (set_b (set_x r i 5) j 0o777776)
  -- "P = FL - 1 fetches": the turn is that of the word there
  pub last_word : (b : Bounds) (s : State) → 0 < b.fl → turn_of b (b.fl - 1) s ≡ word_run b (b.fl - 1) (get_or s.field (b.fl - 1) 0) s
  -- "P = FL stops with 3", and nothing else changes
  pub past-last-word : (b : Bounds) (s : State)
      → (turn_of b b.fl s ≡ turned s (turn_end b.fl (Some Because.FetchOutside))) × (stop_number (Some Because.FetchOutside) ≡ 3)
