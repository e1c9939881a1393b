-- All marked results hold: by what a turn of each code leaves, the rest is computed by the checker.
use Rattle.std.specs.Prelude.{◌≡◌, refl, ℕ, ◌-◌, ◌^◌, ◌≤◌, ◌<◌}
use Rattle.std.proofs.Common.{arith, le-leb, lt-ltb, le-ltb, lit<}
use Rattle.std.specs.Int.Count.{ones_in}
use Rattle.word_arithmetic.specs.Sums.{magnitude, sum}
use Rattle.word_shift.specs.Shifts.{rotate_left, mask, shift_right_signed, shift_a}
use Rattle.word_shift.specs.Floating.{coefficient_of, exponent_from, exponent_of}
use Rattle.central_field.specs.Address.{place_of}
use Rattle.central_registers.specs.Registers.{x_of}
use Rattle.central_turn.specs.Turn.{turn_of}
use Rattle.central_turn.specs.Laws.Place.{place-back}
use Rattle.check_marked.specs.Marked.{Marked}
use Rattle.check_marked.specs.Laws.Codes.{turn-21, turn-26, turn-36, turn-43, turn-47, turn-66, turn-010, turn-shn, turn-sod}

all_ones : (w : ℕ) → 2 ^ 59 ≤ w → w < 2 ^ 60 → shift_right_signed 60 w 0o77 ≡ 0o77777777777777777777
unfolding mask shift_right_signed
all_ones w l h = simp (le-leb (2 ^ 59) w l) (omega arith)

pub marked : Marked
unfolding sum rotate_left mask shift_a ones_in magnitude coefficient_of exponent_from exponent_of place_of turn_of
marked =
    record {
      three-18 = λ i j k r x y. turn-66 x y;
      three-60 = λ i j k r x y. turn-36 x y;
      minus-zeros = λ i j k r x y. turn-66 x y;
      carried-round = λ i j k r x y. turn-66 x y;
      right-by-77 = λ i r l h. rw (← all_ones (x_of r i) l h) turn-21;
      mask-of-03 = λ i r. turn-43;
      mask-of-30 = λ i r. turn-43;
      count-of-ones = λ i j k r x. turn-47 x;
      shn-06 = λ h n t a. turn-shn h n 0o06 (lit< tt) t a;
      shn-71 = λ h n t a. turn-shn h n 0o71 (lit< tt) t a;
      sod = λ h n d l t zero. turn-sod h n d l t zero;
      return-jump = λ b r f rest l m at. turn-010 2 rest (lit< tt) m b 0 r f (omega arith) l at;
      unpacked = λ i j k r x. turn-26 x;
      last_word = λ b s h. rw (lt-ltb (b.fl - 1) b.fl (omega arith), place-back b.ra (b.fl - 1));
      past-last-word = λ b s. (rw (le-ltb b.fl b.fl (omega arith)), refl);
    }
