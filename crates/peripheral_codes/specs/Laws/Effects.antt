-- The effect of every instruction names places that are there, and values of their widths. c is the central memory.
use Rattle.std.specs.Prelude.{Bool, not, List, ℕ, ◌^◌, ◌<◌, eqb}
use Rattle.std.proofs.Common.{arith, lit<}
use Rattle.std.specs.Int.Bits.{and_lt}
use Rattle.std.proofs.lemmas.Nat.{xor_lt}
use Rattle.word_arithmetic.specs.Bits.{negative}
use Rattle.word_arithmetic.specs.Sums.{complement}
use Rattle.base_logic.specs.Laws.Choice.{of-cond}
use Rattle.base_lists.specs.Laws.Each.{of-get_d}
use Rattle.word_arithmetic.specs.Laws.Sums.{complement-lt, sum_lt, difference-lt}
use Rattle.word_shift.specs.Laws.Shifts.{shift-a-lt}
use Rattle.peripheral_machine.specs.Widths.{PeripheralSound}
use Rattle.peripheral_machine.specs.declared.effect.PeripheralEffect.TheVariants.{Advance}
use Rattle.peripheral_machine.specs.declared.numbers.Processor.{Processor}
use Rattle.peripheral_codes.specs.Addresses.{word_at, indexed, constant}
use Rattle.peripheral_codes.specs.Jumps.{pass, relative_jump_if, jumps, jump_of}
use Rattle.peripheral_codes.specs.Constants.{short_values, short_value, short_of, long_values, long_value, long_of}
use Rattle.peripheral_codes.specs.Memory.{operations, operation_of}
use Rattle.peripheral_codes.specs.Widths.{Memory, Held}
use Rattle.peripheral_codes.specs.Laws.Addresses.{low-lt, onward-lt, jump-target-lt, indexed-lt, constant-lt, wider}

-- A after 10 to 17, and after 20 to 23
pub short-value-lt : (k a d : ℕ) → a < 2 ^ 18 → d < 2 ^ 18 → short_value k a d < 2 ^ 18
unfolding short_value
short-value-lt k a d ha hd =
    of-get_d (λ (v : ℕ). v < 2 ^ 18) (short_values a d) k 0 (
      shift-a-lt d a ha,
      (
        xor_lt 18 a d ha hd,
        (
          and_lt 18 a d ha hd,
          (
            and_lt 18 a (complement 18 d) ha (complement-lt 18 d),
            (hd, (complement-lt 18 d, (sum_lt 18 a d ha hd, (difference-lt 18 a d ha, tt)))),
          ),
        ),
      ),
    )
    (lit< tt)

pub long-value-lt : (k a dm : ℕ) → a < 2 ^ 18 → dm < 2 ^ 18 → long_value k a dm < 2 ^ 18
unfolding long_value
long-value-lt k a dm ha hd =
    of-get_d (λ (v : ℕ). v < 2 ^ 18) (long_values a dm) k 0
    (hd, (sum_lt 18 a dm ha hd, (and_lt 18 a dm ha hd, (xor_lt 18 a dm ha hd, tt))))
    (lit< tt)

module _ (c : List ℕ) (q : Processor) (g : Held q) where
  pub pass-sound : PeripheralSound c (pass q)
  pass-sound = (onward-lt q.p 1, g.a)

  jump-if-sound : (d : ℕ) (taken : Bool) → PeripheralSound c (relative_jump_if q d taken)
  jump-if-sound d taken = of-cond (PeripheralSound c) taken (λ e. (jump-target-lt q.p d, g.a)) (λ e. pass-sound)

  pub jump-sound : (m : List ℕ) → Memory m → (k d : ℕ) → PeripheralSound c (jump_of m q k d)
  unfolding jump_of
  jump-sound m h k d =
      let t = indexed-lt m h q.p d in
      of-get_d (PeripheralSound c) (jumps m q d) k (pass q) (
        pass-sound,
        (
          (t, g.a),
          (
            ((onward-lt (indexed m q.p d) 1, g.a), (t, onward-lt q.p 2)),
            (
              (jump-target-lt q.p d, g.a),
              (
                jump-if-sound d (eqb q.a 0),
                (
                  jump-if-sound d (not (eqb q.a 0)),
                  (jump-if-sound d (not (negative 18 q.a)), (jump-if-sound d (negative 18 q.a), tt)),
                ),
              ),
            ),
          ),
        ),
      )
      pass-sound

  pub short-sound : (k d : ℕ) → d < 64 → PeripheralSound c (short_of q k d)
  short-sound k d l = (onward-lt q.p 1, short-value-lt k q.a d g.a (omega arith))

  pub long-sound : (m : List ℕ) → Memory m → (k d : ℕ) → d < 64 → PeripheralSound c (long_of m q k d)
  long-sound m h k d l =
      (onward-lt q.p 2, long-value-lt k q.a (constant m q.p d) g.a (constant-lt m h q.p d l))

-- 30 to 57
pub operation-sound : (c m : List ℕ) → Memory m → (a k i p : ℕ) → a < 2 ^ 18 → i < 4096 → p < 2 ^ 12 → PeripheralSound c (operation_of m a k i p)
unfolding operation_of
operation-sound c m h a k i p ha hi hp =
    let v : word_at m i < 2 ^ 18 = wider (word_at m i) (h.short.word i) in
    let one : 1 < 2 ^ 18 = lit< tt in
    let added = sum_lt 18 a (word_at m i) ha v in
    let more = sum_lt 18 (word_at m i) 1 v one in
    let less = difference-lt 18 (word_at m i) 1 v in
    of-get_d (PeripheralSound c) (operations a p i (word_at m i)) k (Advance p a) (
      (hp, v),
      (
        (hp, added),
        (
          (hp, difference-lt 18 a (word_at m i) ha),
          (
            (hp, xor_lt 18 a (word_at m i) ha v),
            (
              ((hp, ha), (hi, low-lt a)),
              (
                ((hp, added), (hi, low-lt _)),
                (((hp, more), (hi, low-lt _)), (((hp, less), (hi, low-lt _)), tt)),
              ),
            ),
          ),
        ),
      ),
    )
    (hp, ha)
