-- The 84 numbers of a record: what stands at each place, that the record is read back from them, and their widths.
use Rattle.std.specs.Prelude.{Bool, true, false, List, ◌≡◌, refl, ℕ, ◌+◌, ◌-◌, ◌<◌, ◌≤◌, length}
use Rattle.std.proofs.Math.Logic.{⊎_elim}
use Rattle.std.proofs.Common.{◌∙◌}
use native.Mathlib.Omega.{arith}
use borrow.Author.Tests.{lt-ltb, le-ltb}
use Rattle.std.proofs.Math.ListN.{get_or, get_or-eq_default}
use Rattle.base_logic.specs.Laws.Choice.{le-or-lt}
use Rattle.peripheral_channel.specs.Codes.{disconnected}
use Rattle.peripheral_channel.specs.declared.record.Channel.{Channel}
use Rattle.base_lists.specs.Laws.Indexed.{length-tabulate, get_d_tabulate, tabulate-of}
use Rattle.central_record.specs.declared.record.Central.{Central}
use Rattle.peripheral_machine.specs.Numbers.{processor_of, flag, is_set, channel_of, central_of, clock_of}
use Rattle.peripheral_machine.specs.Widths.{number_fits, NumbersWide}
use Rattle.peripheral_machine.specs.Laws.Widths.{at_p, at_a, at-stop, at_flag, at-word, at-central, at-clock}
use Rattle.peripheral_machine.specs.declared.numbers.Processor.{Processor}
use Rattle.whole_record.specs.declared.record.MachineRecord.{MachineRecord}
use Rattle.whole_record.specs.Record.{idle, processor_at, channel_at}
use Rattle.whole_record.specs.Numbers.{processor_number, channel_number, number_of, numbers_of, processors_of, channels_of, record_of}
use Rattle.whole_record.specs.Laws.Record.{FitsMachine}

pub flag-read : (b : Bool) → is_set (flag b) ≡ b
flag-read true = refl
flag-read false = refl

-- past the last place, where 0 is read
past_fits : (i : ℕ) → 84 ≤ i → number_fits i 0 ≡ true
past_fits i l = at-clock i 0 (omega arith)

module _ (r : MachineRecord) where
  pub count-numbers : length (numbers_of r) ≡ 84
  unfolding numbers_of
  count-numbers = length-tabulate (number_of r) 84

  number_at : (i : ℕ) → i < 84 → get_or (numbers_of r) i 0 ≡ number_of r i
  unfolding numbers_of
  number_at i h = get_d_tabulate (number_of r) 0 84 i h

  -- the numbers of a processor
  module _ (n : ℕ) (h : n < 10) where
    p-at : get_or (numbers_of r) n 0 ≡ (processor_at r.processors n).p
    unfolding number_of processor_number
    p-at = number_at n (omega arith) ∙ rw (lt-ltb n 30 (omega arith), lt-ltb n 10 h)

    a_at : get_or (numbers_of r) (10 + n) 0 ≡ (processor_at r.processors n).a
    unfolding number_of processor_number
    a_at =
        let e : 10 + n - 10 ≡ n = omega arith in
        number_at (10 + n) (omega arith)
        ∙ rw (lt-ltb (10 + n) 30 (omega arith), le-ltb (10 + n) 10 (omega arith), lt-ltb (10 + n) 20 (omega arith), e)

    stop-at : get_or (numbers_of r) (20 + n) 0 ≡ (processor_at r.processors n).stop
    unfolding number_of processor_number
    stop-at =
        let e : 20 + n - 20 ≡ n = omega arith in
        number_at (20 + n) (omega arith)
        ∙ rw (lt-ltb (20 + n) 30 (omega arith), le-ltb (20 + n) 10 (omega arith), le-ltb (20 + n) 20 (omega arith), e)

    pub processor-again : processor_of (numbers_of r) n ≡ processor_at r.processors n
    processor-again = rw (p-at, a_at, stop-at)

  -- the numbers of a channel
  channels-at : (k : ℕ) → k < 48 → get_or (numbers_of r) (30 + k) 0 ≡ channel_number r.channels k
  unfolding number_of
  channels-at k h =
      let e : 30 + k - 30 ≡ k = omega arith in
      number_at (30 + k) (omega arith) ∙ rw (le-ltb (30 + k) 30 (omega arith), lt-ltb (30 + k) 78 (omega arith), e)

  module _ (i : ℕ) (h : i < 12) where
    active-at : get_or (numbers_of r) (30 + i) 0 ≡ flag (channel_at r.channels i).active
    unfolding channel_number
    active-at = channels-at i (omega arith) ∙ rw (lt-ltb i 12 h)

    full_at : get_or (numbers_of r) (42 + i) 0 ≡ flag (channel_at r.channels i).full
    unfolding channel_number
    full_at =
        let e : 42 + i ≡ 30 + (12 + i) = omega arith in
        let z : 12 + i - 12 ≡ i = omega arith in
        rw e (channels-at (12 + i) (omega arith) ∙ rw (le-ltb (12 + i) 12 (omega arith), lt-ltb (12 + i) 24 (omega arith), z))

    mark-at : get_or (numbers_of r) (54 + i) 0 ≡ flag (channel_at r.channels i).mark
    unfolding channel_number
    mark-at =
        let e : 54 + i ≡ 30 + (24 + i) = omega arith in
        let z : 24 + i - 24 ≡ i = omega arith in
        rw e
        (channels-at (24 + i) (omega arith)
        ∙ rw (le-ltb (24 + i) 12 (omega arith), le-ltb (24 + i) 24 (omega arith), lt-ltb (24 + i) 36 (omega arith), z))

    word_at : get_or (numbers_of r) (66 + i) 0 ≡ (channel_at r.channels i).word
    unfolding channel_number
    word_at =
        let e : 66 + i ≡ 30 + (36 + i) = omega arith in
        let z : 36 + i - 36 ≡ i = omega arith in
        rw e
        (channels-at (36 + i) (omega arith)
        ∙ rw (le-ltb (36 + i) 12 (omega arith), le-ltb (36 + i) 24 (omega arith), le-ltb (36 + i) 36 (omega arith), z))

    pub channel-again : channel_of (numbers_of r) i ≡ channel_at r.channels i
    channel-again =
        let c : Channel = channel_at r.channels i in
        rw (active-at, full_at, mark-at, word_at, flag-read c.active, flag-read c.full, flag-read c.mark)

  -- the numbers of the central processor, and the clock
  pub central-again : central_of r.central.registers (numbers_of r) ≡ r.central
  unfolding number_of
  central-again =
      let p : get_or (numbers_of r) 78 0 ≡ r.central.p = number_at 78 (omega arith) in
      let ra : get_or (numbers_of r) 79 0 ≡ r.central.ra = number_at 79 (omega arith) in
      let fl : get_or (numbers_of r) 80 0 ≡ r.central.fl = number_at 80 (omega arith) in
      let em : get_or (numbers_of r) 81 0 ≡ r.central.em = number_at 81 (omega arith) in
      let stop : get_or (numbers_of r) 82 0 ≡ r.central.stop = number_at 82 (omega arith) in
      rw (p, ra, fl, em, stop)

  pub clock-again : clock_of (numbers_of r) ≡ r.clock
  unfolding number_of
  clock-again = number_at 83 (omega arith)

  pub processors-again : length r.processors ≡ 10 → processors_of (numbers_of r) ≡ r.processors
  processors-again e =
      tabulate-of (processor_of (numbers_of r)) idle 10 r.processors e processor-again

  pub channels-again : length r.channels ≡ 12 → channels_of (numbers_of r) ≡ r.channels
  channels-again e =
      tabulate-of (channel_of (numbers_of r)) disconnected 12 r.channels e channel-again

  -- the widths, place by place
  module _ (n : ℕ) (f : FitsMachine n r) where
    low_fits : (i : ℕ) → i < 30 → number_fits i (number_of r i) ≡ true
    unfolding number_of processor_number
    low_fits i h =
        ⊎_elim
        (λ g. at-stop i (number_of r i) g h
        ∙ rw (lt-ltb i 30 h, le-ltb i 10 (omega arith), le-ltb i 20 g) (f.processor (i - 20) (omega arith)).stop-listed)
        (λ g. ⊎_elim
        (λ j. at_a i (number_of r i) j g
        ∙ rw (lt-ltb i 30 h, le-ltb i 10 j, lt-ltb i 20 g) (f.processor (i - 10) (omega arith)).a-width)
        (λ j. at_p i (number_of r i) j ∙ rw (lt-ltb i 30 h, lt-ltb i 10 j) (f.processor i j).p-width)
        (le-or-lt 10 i))
        (le-or-lt 20 i)

    channel-number-fits : (i : ℕ) → 30 ≤ i → i < 78 → number_fits i (number_of r i) ≡ true
    unfolding number_of channel_number
    channel-number-fits i l h =
        ⊎_elim
        (λ g. at-word i (number_of r i) g h
        ∙ rw (
          le-ltb i 30 l,
          lt-ltb i 78 h,
          le-ltb (i - 30) 12 (omega arith),
          le-ltb (i - 30) 24 (omega arith),
          le-ltb (i - 30) 36 (omega arith),
        ) (f.channel (i - 30 - 36) (omega arith)))
        (λ g. at_flag i (number_of r i) l g)
        (le-or-lt 66 i)

    high_fits : (i : ℕ) → 78 ≤ i → i < 84 → number_fits i (number_of r i) ≡ true
    unfolding number_of
    high_fits i l h =
        ⊎_elim
        (λ g. let e : i ≡ 83 = omega arith in rw e (at-clock 83 r.clock (omega arith) ∙ f.clock))
        (λ g. at-central i (number_of r i) l g)
        (le-or-lt 83 i)

    place-fits : (i : ℕ) → i < 84 → number_fits i (number_of r i) ≡ true
    place-fits i h =
        ⊎_elim
        (λ g. high_fits i g h)
        (λ g. ⊎_elim (λ j. channel-number-fits i j g) (λ j. low_fits i j) (le-or-lt 30 i))
        (le-or-lt 78 i)

    pub wide-numbers : NumbersWide (numbers_of r)
    wide-numbers =
        record {
          at =
              λ i. ⊎_elim
              (λ l. let past : length (numbers_of r) ≤ i = omega (arith, count-numbers) in
              rw (get_or-eq_default (numbers_of r) 0 past) (past_fits i l))
              (λ l. rw (number_at i l) (place-fits i l))
              (le-or-lt 84 i);
        }

-- what is equal part by part is equal
same-record : (c c' : Central) (t t' : ℕ) (h h' : List Channel) (q q' : List Processor)
    → c ≡ c' → t ≡ t' → h ≡ h' → q ≡ q'
    → ◌≡◌ {A = MachineRecord} (record { central = c; clock = t; channels = h; processors = q })
    (record { central = c'; clock = t'; channels = h'; processors = q' })
same-record c c' t t' h h' q q' ec et eh eq = rw (ec, et, eh, eq)

-- the record as numbers, and back, is the record
pub record-again : (r : MachineRecord) → length r.channels ≡ 12 → length r.processors ≡ 10
    → record_of r.central.registers (numbers_of r) ≡ r
record-again r hc hp =
    same-record _ r.central _ r.clock _ r.channels _ r.processors
    (central-again r) (clock-again r) (channels-again r hc) (processors-again r hp)
