-- What turns of the codes that the table names leave, of every operand.
use Rattle.std.specs.Prelude.{None, ◌≡◌, List, ℕ, ◌+◌, ◌*◌, ◌^◌, ◌<◌, get_or, set}
use Rattle.std.proofs.Common.{arith, lit<}
use borrow.Author.Tests.{lt-ltb, eq-eqb}
use Rattle.word_arithmetic.specs.Bits.{bits, low}
use Rattle.word_arithmetic.specs.Sums.{sum, difference}
use Rattle.word_shift.specs.Shifts.{mask, shift_right_signed, shift_a, count_ones}
use Rattle.word_shift.specs.Floating.{coefficient_of, exponent_of}
use Rattle.central_field.specs.Address.{place_of}
use Rattle.central_field.specs.declared.address.Bounds.{Bounds}
use Rattle.central_codes.specs.Codes.{is_long, is_left_out, is_fit, parcels_of}
use Rattle.central_decode.specs.Parcels.{parcel, digit, code, constant_k}
use Rattle.central_decode.specs.Instruction.{constant_at, decoded}
use Rattle.central_registers.specs.Registers.{b_of, x_of, set_b, set_x}
use Rattle.central_effect.specs.Effects.{return_word, branch_of, unpack_to, shift_of, sum_of, mask_or_count_of, operand_of, effect_of}
use Rattle.central_apply.specs.State.{state}
use Rattle.central_apply.specs.Apply.{return_jumped, applied}
use Rattle.central_turn.specs.Turn.{ran_at, turned, turn_end, parcels_run, turn_of}
use Rattle.central_turn.specs.Laws.Place.{place-back}
use Rattle.peripheral_machine.specs.Numbers.{processor_of}
use Rattle.peripheral_machine.specs.Machine.{Machine}
use Rattle.peripheral_machine.specs.Apply.{peripheral_applied}
use Rattle.peripheral_codes.specs.Addresses.{word_at}
use Rattle.peripheral_codes.specs.Constants.{short_value}
use Rattle.peripheral_codes.specs.Memory.{operation_of}
use Rattle.peripheral_turn.specs.Turn.{effect_from, peripheral_turn_of}
use Rattle.check_marked.specs.Marked.{TurnLeaves, Runs, one_word_on}
use Rattle.check_marked.specs.Laws.Words.{turn-leaves}

module _ {i j k : ℕ} {r : List ℕ} where
  pub turn-21 : TurnLeaves 0o21 i j k r (set_x r i (shift_right_signed 60 (x_of r i) (j * 8 + k)))
  unfolding is_long is_left_out is_fit parcels_of shift_of effect_of applied ran_at
  turn-21 = turn-leaves (lit< tt) (λ b p f. search)

  pub turn-26 : {x : ℕ} → x_of r k ≡ x → TurnLeaves 0o26 i j k r (set_b (set_x r i (coefficient_of x)) j (exponent_of x))
  unfolding is_long is_left_out is_fit parcels_of unpack_to shift_of effect_of applied ran_at
  turn-26 x = turn-leaves (lit< tt) (λ b p f. rw x)

  pub turn-36 : {x y : ℕ} → x_of r j ≡ x → x_of r k ≡ y → TurnLeaves 0o36 i j k r (set_x r i (sum 60 x y))
  unfolding is_long is_left_out is_fit parcels_of sum_of effect_of applied ran_at
  turn-36 x y = turn-leaves (lit< tt) (λ b p f. rw (x, y))

  pub turn-43 : TurnLeaves 0o43 i j k r (set_x r i (mask 60 (j * 8 + k)))
  unfolding is_long is_left_out is_fit parcels_of mask_or_count_of effect_of applied ran_at
  turn-43 = turn-leaves (lit< tt) (λ b p f. search)

  pub turn-47 : {x : ℕ} → x_of r k ≡ x → TurnLeaves 0o47 i j k r (set_x r i (count_ones 60 x))
  unfolding is_long is_left_out is_fit parcels_of mask_or_count_of effect_of applied ran_at
  turn-47 x = turn-leaves (lit< tt) (λ b p f. rw x)

  pub turn-66 : {x y : ℕ} → b_of r j ≡ x → b_of r k ≡ y → TurnLeaves 0o66 i j k r (set_b r i (sum 18 x y))
  unfolding is_long is_left_out is_fit parcels_of operand_of effect_of applied ran_at
  turn-66 x y = turn-leaves (lit< tt) (λ b p f. rw (x, y))

-- 010 to K, and any other half of the word
module _ (k rest : ℕ) (lk : k < 2 ^ 18) (lr : rest < 2 ^ 30) where
  abbrev w : ℕ
  w = 0o01000000000000000000 + k * 2 ^ 30 + rest

  code_is : code (parcel w 0) ≡ 0o01
  code_is = omega arith

  i-is : digit (parcel w 0) 2 ≡ 0
  i-is = omega arith

  constant-is : constant_k w 0 ≡ k
  constant-is = omega arith

  pub turn-010 : (b : Bounds) (p : ℕ) (r f : List ℕ) → p < b.fl → k < b.fl → get_or f p 0 ≡ w
      → turn_of b p (state r f) ≡ turned (state r (set f k (return_word p))) (turn_end (k + 1) None)
  unfolding place_of is_long is_left_out is_fit parcels_of constant_at decoded branch_of effect_of return_jumped applied ran_at parcels_run turn_of
  turn-010 b p r f l m at =
      rw (lt-ltb p b.fl l, place-back b.ra p, at, code_is, i-is, constant-is, lt-ltb k b.fl m, place-back b.ra k)

-- the peripheral instruction v is the code f m with d
record Digits (v f m d : ℕ) : Type 0 where
  f-is : bits v 9 3 ≡ f
  m-is : bits v 6 3 ≡ m
  d-is : low 6 v ≡ d

digits : (f m d : ℕ) → f < 8 → m < 8 → d < 64 → Digits (f * 2 ^ 9 + m * 2 ^ 6 + d) f m d
digits f m d lf lm ld = record { f-is = omega arith; m-is = omega arith; d-is = omega arith }

module _ (h : Machine) (n d : ℕ) (l : d < 64) where
  pub turn-shn : {a : ℕ} → Runs h n (0o1000 + d) → (processor_of h.numbers n).a ≡ a
      → peripheral_turn_of h n ≡ one_word_on h n h.peripheral (shift_a d a)
  unfolding peripheral_applied short_value effect_from peripheral_turn_of
  turn-shn t a =
      let e = digits 1 0 d (lit< tt) (lit< tt) l in
      rw (eq-eqb (processor_of h.numbers n).stop 0 t.running, t.word, e.f-is, e.m-is, e.d-is, a)

  pub turn-sod : {v : ℕ} → Runs h n (0o3700 + d) → word_at h.peripheral d ≡ v
      → peripheral_turn_of h n ≡ one_word_on h n (set h.peripheral d (low 12 (difference 18 v 1))) (difference 18 v 1)
  unfolding peripheral_applied operation_of effect_from peripheral_turn_of
  turn-sod t v =
      let e = digits 3 7 d (lit< tt) (lit< tt) l in
      rw (eq-eqb (processor_of h.numbers n).stop 0 t.running, t.word, e.f-is, e.m-is, e.d-is, v)
