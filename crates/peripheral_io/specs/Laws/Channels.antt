-- The effects of 64 to 67, 70, 72 and 74 to 77 name channels that are there, and values of their widths.
use Rattle.std.specs.Prelude.{List, ℕ, ◌-◌, ◌^◌, ◌<◌, eqb, ltb, Option, Some, None}
use borrow.Author.Tests.{ltb-true}
use Rattle.word_arithmetic.specs.Bits.{low}
use Rattle.base_logic.specs.Laws.Choice.{of-cond}
use Rattle.base_lists.specs.Laws.Each.{of-get_d}
use Rattle.peripheral_channel.specs.Codes.{channel_input, channel_output, activate_of, disconnect_of, function_of}
use Rattle.peripheral_channel.specs.Laws.Width.{ChannelFits, FitsChange, input-fits, output-fits, activate-fits, disconnect-fits, function-fits}
use Rattle.peripheral_channel.specs.declared.record.Channel.{Channel}
use Rattle.peripheral_machine.specs.Numbers.{channel_of, clock_of}
use Rattle.peripheral_machine.specs.Widths.{NumbersWide, PeripheralSound}
use Rattle.peripheral_machine.specs.Laws.Widths.{channel-fits, clock-short}
use Rattle.peripheral_machine.specs.declared.numbers.Processor.{Processor}
use Rattle.peripheral_codes.specs.Addresses.{second}
use Rattle.peripheral_io.specs.Channels.{no_channel, condition, jump_channel, channel_jump, changed, input_from, output_to, changes, change_of, change_on}
use Rattle.peripheral_codes.specs.Widths.{Memory, Held}
use Rattle.peripheral_codes.specs.Laws.Addresses.{low-lt, onward-lt, second_lt, wider}

changed-sound : (c : List ℕ) (p a d : ℕ) (x : Option Channel) → p < 2 ^ 12 → a < 2 ^ 18 → d < 0o14 → FitsChange x → PeripheralSound c (changed p a d x)
changed-sound c p a d None hp ha hd f = tt
changed-sound c p a d (Some r) hp ha hd f = ((hp, ha), (hd, f))

-- c is the central memory
module _ (c s : List ℕ) (q : Processor) where
  pub channel-jump-sound : Held q → (m : List ℕ) → Memory m → (k d : ℕ) → PeripheralSound c (channel_jump m s q k d)
  unfolding channel_jump
  channel-jump-sound g m h k d =
      of-cond (PeripheralSound c) (ltb 0o14 d) (λ e. tt)
      (λ e.
      of-cond (PeripheralSound c) (condition (jump_channel s d) k) (λ t. (second_lt m h q.p, g.a)) (λ t. (onward-lt q.p 2, g.a)))

  pub input-from-sound : NumbersWide s → (d : ℕ) → PeripheralSound c (input_from s q d)
  unfolding input_from
  input-from-sound w d =
      of-cond (PeripheralSound c) (eqb d 0o14) (λ e. (onward-lt q.p 1, wider (clock_of s) (clock-short s w)))
      (λ e.
      of-cond (PeripheralSound c) (ltb d 0o14)
      (λ l.
      let i : d < 0o14 = ltb-true d 0o14 l in
      let word = wider (channel_of s d).word (channel-fits s w d i) in
      changed-sound c _ _ d (channel_input (channel_of s d)) (onward-lt q.p 1) word i (input-fits (channel_of s d)))
      (λ l. tt))

  pub output-to-sound : Held q → (d : ℕ) → PeripheralSound c (output_to s q d)
  unfolding output_to
  output-to-sound g d =
      of-cond (PeripheralSound c) (ltb d 0o14)
      (λ l.
      changed-sound c _ _ d (channel_output (channel_of s d) (low 12 q.a)) (onward-lt q.p 1) g.a (ltb-true d 0o14 l)
      (output-fits (channel_of s d) (low 12 q.a) (low-lt q.a)))
      (λ l. tt)

  pub change-of-sound : Held q → (m : List ℕ) → Memory m → (r : Channel) → ChannelFits r → (k d : ℕ) → d < 0o14 → PeripheralSound c (change_of m r q k d)
  unfolding change_of
  change-of-sound g m h r f k d i =
      let one = onward-lt q.p 1 in
      let by-a = function-fits r (low 12 q.a) (low-lt q.a) in
      let by-m = function-fits r (second m q.p) (second_lt m h q.p) in
      of-get_d (PeripheralSound c) (changes m r q d) (k - 4) no_channel (
        changed-sound c _ _ d (activate_of r) one g.a i (activate-fits r f),
        (
          changed-sound c _ _ d (disconnect_of r) one g.a i (disconnect-fits r),
          (
            changed-sound c _ _ d (function_of r (low 12 q.a)) one g.a i by-a,
            (changed-sound c _ _ d (function_of r (second m q.p)) (onward-lt q.p 2) g.a i by-m, tt),
          ),
        ),
      )
      tt

  pub change-on-sound : NumbersWide s → Held q → (m : List ℕ) → Memory m → (k d : ℕ) → PeripheralSound c (change_on m s q k d)
  unfolding change_on
  change-on-sound w g m h k d =
      of-cond (PeripheralSound c) (ltb d 0o14)
      (λ l. let i : d < 0o14 = ltb-true d 0o14 l in change-of-sound g m h (channel_of s d) (channel-fits s w d i) k d i)
      (λ l. tt)
