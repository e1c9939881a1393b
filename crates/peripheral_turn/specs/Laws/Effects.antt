-- The effect of every instruction names places that are there, and values of their widths. c is the central memory.
use Rattle.std.specs.Prelude.{true, List, ◌≡◌, ℕ, ◌+◌, ◌-◌, ◌/◌, ◌%◌, ◌^◌, ◌<◌, ltb, get_or, length}
use Rattle.std.proofs.Common.{arith, ltb-true}
use Rattle.word_arithmetic.specs.Bits.{bits, low}
use Rattle.base_logic.specs.Laws.Choice.{of-cond}
use Rattle.base_lists.specs.Laws.Each.{of-get_d}
use Rattle.word_fields.specs.Laws.Fields.{from-parts-lt}
use Rattle.exchange_jump.specs.Jump.{package_inside, package_clean, field_inside, package_verdict}
use Rattle.exchange_jump.specs.Accepted.{PackageAccepted}
use Rattle.exchange_jump.specs.Laws.Verdicts.{package-accepted}
use Rattle.peripheral_machine.specs.Numbers.{central_p}
use Rattle.peripheral_machine.specs.Widths.{NumbersWide, PeripheralSound}
use Rattle.peripheral_machine.specs.declared.numbers.Processor.{Processor}
use Rattle.peripheral_codes.specs.Addresses.{word_at, onward, indexed}
use Rattle.peripheral_io.specs.CentralSide.{exchange_of, read_central, joined, write_central}
use Rattle.peripheral_io.specs.Channels.{channel_jump, change_on}
use Rattle.peripheral_turn.specs.Turn.{peripheral_left_out, after_constants, second_row_of, central_words, channel_words, sixth_row_of, seventh_row_of, peripheral_rows, effect_from, peripheral_effect_of}
use Rattle.peripheral_codes.specs.Widths.{Memory, Held}
use Rattle.peripheral_codes.specs.Laws.Addresses.{onward-lt, indexed-lt}
use Rattle.peripheral_codes.specs.Laws.Effects.{pass-sound, jump-sound, short-sound, long-sound, operation-sound}
use Rattle.peripheral_io.specs.Laws.Channels.{channel-jump-sound, input-from-sound, output-to-sound, change-on-sound}

module _ (c : List ℕ) (q : Processor) (g : Held q) where
  -- 26: a package without a fault is accepted
  no-fault : package_inside c q.a ≡ true → package_clean c q.a ≡ true → field_inside c q.a ≡ true → PackageAccepted c q.a
  unfolding package_verdict
  no-fault inside clean field = package-accepted c q.a (rw (inside, clean, field))

  pub exchange-sound : PeripheralSound c (exchange_of c q)
  unfolding exchange_of
  exchange-sound =
      of-cond (PeripheralSound c) (package_inside c q.a)
      (λ inside. of-cond (PeripheralSound c) (package_clean c q.a)
      (λ clean. of-cond (PeripheralSound c) (field_inside c q.a) (λ field. (pass-sound c q g, no-fault inside clean field)) (λ e. tt))
      (λ e. tt))
      (λ e. tt)

  pub read-central-sound : (d : ℕ) → d < 64 → PeripheralSound c (read_central c q d)
  unfolding read_central
  read-central-sound d l = of-cond (PeripheralSound c) (ltb q.a (length c)) (λ e. (pass-sound c q g, l)) (λ e. tt)

pub joined-lt : (m : List ℕ) → Memory m → (d : ℕ) → joined m d < 2 ^ 60
unfolding joined
joined-lt m h d =
    from-parts-lt (word_at m d) (word_at m (d + 1)) (word_at m (d + 2)) (word_at m (d + 3)) (word_at m (d + 4))
    (h.short.word d)
    (h.short.word (d + 1))
    (h.short.word (d + 2))
    (h.short.word (d + 3))
    (h.short.word (d + 4))

pub write-central-sound : (c : List ℕ) (q : Processor) → Held q → (m : List ℕ) → Memory m → (d : ℕ) → PeripheralSound c (write_central m c q d)
unfolding write_central
write-central-sound c q g m h d =
    of-cond (PeripheralSound c) (ltb q.a (length c))
    (λ e. (pass-sound c q g, (ltb-true q.a (length c) e, joined-lt m h d)))
    (λ e. tt)

module _ (m c s : List ℕ) (q : Processor) (h : Memory m) (w : NumbersWide s) (p : central_p s < 2 ^ 18) (g : Held q) where
  pub second-row-sound : (k d : ℕ) → d < 64 → PeripheralSound c (second_row_of m c s q k d)
  unfolding second_row_of
  second-row-sound k d l =
      of-cond (PeripheralSound c) (ltb k 4) (λ e. long-sound c q g m h k d l)
      (λ e.
      of-get_d (PeripheralSound c) (after_constants c s q) (k - 4) peripheral_left_out
      (pass-sound c q g, (pass-sound c q g, (exchange-sound c q g, ((onward-lt q.p 1, p), tt))))
      tt)

  pub sixth-row-sound : (k d : ℕ) → d < 64 → PeripheralSound c (sixth_row_of m c s q k d)
  unfolding sixth_row_of
  sixth-row-sound k d l =
      of-get_d (PeripheralSound c) (central_words m c q d) k (channel_jump m s q k d)
      (read-central-sound c q g d l, (tt, (write-central-sound c q g m h d, (tt, tt))))
      (channel-jump-sound c s q g m h k d)

  pub seventh-row-sound : (k d : ℕ) → PeripheralSound c (seventh_row_of m s q k d)
  unfolding seventh_row_of
  seventh-row-sound k d =
      of-get_d (PeripheralSound c) (channel_words s q d) k (change_on m s q k d)
      (input-from-sound c s q w d, (tt, (output-to-sound c s q g d, (tt, tt))))
      (change-on-sound c s q w g m h k d)

  rows-sound : (k d i : ℕ) → d < 64 → PeripheralSound c (get_or (peripheral_rows m c s q k d) i peripheral_left_out)
  rows-sound k d i l =
      of-get_d (PeripheralSound c) (peripheral_rows m c s q k d) i peripheral_left_out (
        jump-sound c q g m h k d,
        (
          short-sound c q g k d l,
          (
            second-row-sound k d l,
            (
              operation-sound c m h q.a k d (onward q.p 1) g.a (omega arith) (onward-lt q.p 1),
              (
                operation-sound c m h q.a k (word_at m d) (onward q.p 1) g.a (h.short.word d) (onward-lt q.p 1),
                (
                  operation-sound c m h q.a k (indexed m q.p d) (onward q.p 2) g.a (indexed-lt m h q.p d) (onward-lt q.p 2),
                  (sixth-row-sound k d l, (seventh-row-sound k d, tt)),
                ),
              ),
            ),
          ),
        ),
      )
      tt

  effect-from-sound : (v : ℕ) → PeripheralSound c (effect_from m c s q v)
  unfolding effect_from
  effect-from-sound v = rows-sound (bits v 6 3) (low 6 v) (bits v 9 3) (omega arith)

pub peripheral-effect-sound : (m c s : List ℕ) (q : Processor) → Memory m → NumbersWide s → central_p s < 2 ^ 18 → Held q → PeripheralSound c (peripheral_effect_of m c s q)
peripheral-effect-sound m c s q h w p g = effect-from-sound m c s q h w p g (word_at m q.p)

-- the two digits of a code
first-digit : (w k : ℕ) → w / 64 % 64 ≡ k → w / 512 % 8 ≡ k / 8
first-digit w k e = omega (arith, e)

second-digit : (w k : ℕ) → w / 64 % 64 ≡ k → w / 64 % 8 ≡ k % 8
second-digit w k e = omega (arith, e)

-- the effect of a code by its number, which picks the row and the entry
pub effect-by-code : (m c s : List ℕ) (q : Processor) (w k : ℕ) → w / 64 % 64 ≡ k
    → effect_from m c s q w ≡ get_or (peripheral_rows m c s q (k % 8) (low 6 w)) (k / 8) peripheral_left_out
unfolding effect_from
effect-by-code m c s q w k e = rw (first-digit w k e, second-digit w k e)
