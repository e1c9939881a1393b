-- What an accepted call lends is a machine that turns may work on, and what they hand back may be lent again.
use Rattle.std.specs.Prelude.{Bool, ◌&&◌, List, ◌≡◌, ℕ, ◌*◌, ◌%◌, ◌^◌, ◌≤◌, ◌<◌, eqb, length, Ok}
use Rattle.std.proofs.Math.Bool.{true}
use Rattle.std.proofs.Common.{sym, arith, lit<}
use Rattle.std.proofs.Math.Path.{subst}
use borrow.Author.Tests.{ltb-true, ltb-false, leb-true, eqb-true, lt-ltb, le-leb, eq-eqb}
use Rattle.std.proofs.Math.Dec.{ltb, leb}
use Rattle.base_logic.specs.Laws.Tests.{both}
use Rattle.base_outcome.specs.declared.refusal.Refusal.TheVariants as Because
use Rattle.peripheral_channel.specs.Codes.{disconnected}
use Rattle.peripheral_channel.specs.declared.record.Channel.{Channel}
use Rattle.central_record.specs.Record.{words_fit}
use Rattle.base_lists.specs.Laws.Indexed.{all_of, get_d_tabulate}
use Rattle.central_record.specs.Laws.Record.{all-below, of-all-below}
use Rattle.exchange_jump.specs.Accepted.{HostAccepted}
use Rattle.base_outcome.specs.Laws.Verdict.{by-test, by-fault}
use Rattle.base_outcome.specs.Laws.Verdict.{both-accept}
use Rattle.peripheral_machine.specs.Machine.{Machine}
use Rattle.peripheral_machine.specs.Numbers.{processor_of, channel_of, clock_of}
use Rattle.peripheral_machine.specs.Widths.{NumbersWide, ShortWords, MachineKept}
use Rattle.peripheral_machine.specs.Laws.Widths.{processor-short, stop-listed, channel-fits, clock-short}
use Rattle.peripheral_machine.specs.declared.numbers.Processor.{Processor}
use Rattle.whole_record.specs.declared.record.MachineRecord.{MachineRecord}
use Rattle.whole_record.specs.Record.{idle, processor_fits, processor_fits_at, processors_fit, channel_fits_at, channels_fit, machine_fits}
use Rattle.whole_verdict.specs.Verdict.{peripheral_length_fits, processors_in, short_words_fit, machine_verdict, turn_verdict, rounds_verdict, run_verdict}
use Rattle.whole_record.specs.Numbers.{processors_of, channels_of, record_of, machine_of}
use Rattle.whole_record.specs.Laws.Record.{machine-fits, of-processor-fits}
use Rattle.whole_record.specs.Laws.Numbers.{count-numbers, central-again, wide-numbers}

-- every word, and 0 past the end
pub short-words : (m : List ℕ) → short_words_fit m ≡ true → ShortWords m
unfolding short_words_fit
short-words m h = record { word = all-below (2 ^ 12) m (lit< tt) h }

pub of-short-words : (m : List ℕ) → ShortWords m → short_words_fit m ≡ true
unfolding short_words_fit
of-short-words m w = of-all-below (2 ^ 12) m w.word

-- the words of 1 to 10 processors
pub record FitsLength (n : ℕ) : Type 0 where
  pub least : 4096 ≤ n
  pub most : n ≤ 40960
  pub multiple : n % 4096 ≡ 0

pub length-fits : (n : ℕ) → peripheral_length_fits n ≡ true → FitsLength n
unfolding peripheral_length_fits
length-fits n h =
    let h₂ = both _ (eqb (n % 4096) 0) h in
    let h₁ = both (leb 4096 n) (leb n 40960) h₂.0 in
    record { least = leb-true 4096 n h₁.0; most = leb-true n 40960 h₁.1; multiple = eqb-true (n % 4096) 0 h₂.1 }

pub of-length-fits : (k : ℕ) → 1 ≤ k → k ≤ 10 → peripheral_length_fits (k * 4096) ≡ true
unfolding peripheral_length_fits
of-length-fits k l h =
    rw (le-leb 4096 (k * 4096) (omega arith), le-leb (k * 4096) 40960 (omega arith), eq-eqb (k * 4096 % 4096) 0 (omega arith))

-- numbers 1 to 5 do not refuse
pub record MachineAccepted (c m : List ℕ) (r : MachineRecord) : Type 0 where
  pub host : HostAccepted c r.central
  pub size : FitsLength (length m)
  pub short : short_words_fit m ≡ true
  pub fits : machine_fits (length c) r ≡ true

module _ (c m : List ℕ) (r : MachineRecord) where
  accepted-if : (there : Bool) → machine_verdict there c m r ≡ Ok tt → (there ≡ true) × MachineAccepted c m r
  unfolding machine_verdict
  accepted-if there e =
      let t₁ = by-test (leb 1 (length c) && leb (length c) 131072) _ _ e in
      let t₂ = by-test (peripheral_length_fits (length m) && there) _ _ t₁.1 in
      let t₃ = by-test (words_fit c) _ _ t₂.1 in
      let t₄ = by-test (short_words_fit m) _ _ t₃.1 in
      let t₅ = by-test (machine_fits (length c) r) _ _ t₄.1 in
      let b₁ = both (leb 1 (length c)) (leb (length c) 131072) t₁.0 in
      let b₂ = both (peripheral_length_fits (length m)) there t₂.0 in (
        b₂.1,
        record {
          host =
              record {
                nonempty = leb-true 1 (length c) b₁.0;
                at_most = leb-true (length c) 131072 b₁.1;
                words = t₃.0;
                fits = (machine-fits (length c) r t₅.0).central;
              };
          size = length-fits (length m) b₂.0;
          short = t₄.0;
          fits = t₅.0;
        },
      )

  pub machine-accepted : machine_verdict true c m r ≡ Ok tt → MachineAccepted c m r
  machine-accepted e = (accepted-if true e).1

  -- a turn is of a processor that is there
  pub peripheral-turn-accepted : (n : ℕ) → turn_verdict c m r n ≡ Ok tt
      → (n < processors_in m) × (machine_verdict true c m r ≡ Ok tt)
  peripheral-turn-accepted n e =
      let h = (accepted-if (ltb n (processors_in m)) e).0 in
      (ltb-true n (processors_in m) h, subst (λ t. machine_verdict t c m r ≡ Ok tt) h e)

  pub run-accepted : (n : ℕ) → run_verdict c m r n ≡ Ok tt → (n ≤ 65535) × (machine_verdict true c m r ≡ Ok tt)
  unfolding run_verdict
  run-accepted n e =
      let t = both-accept (machine_verdict true c m r) (rounds_verdict n) e in
      (ltb-false 65535 n (by-fault (ltb 65535 n) Because.TooManyTurns (Ok tt) t.1).0, t.0)

  module _ (e : machine_verdict true c m r ≡ Ok tt) where
    pub processors-few : (1 ≤ processors_in m) × (processors_in m ≤ 10)
    processors-few =
        let l = (machine-accepted e).size.least in
        let h = (machine-accepted e).size.most in
        (omega arith, omega arith)

    pub processors-words : length m ≡ processors_in m * 4096
    processors-words = omega (arith, (machine-accepted e).size.multiple)

    pub machine-kept : length r.central.registers ≡ 24 → MachineKept (processors_in m * 4096) (machine_of c m r)
    machine-kept count =
        let a = machine-accepted e in
        record {
          size = processors-words;
          short = short-words m a.short;
          host = subst (HostAccepted c) (sym (central-again r)) a.host;
          count = count;
          places = count-numbers r;
          wide = wide-numbers r (length c) (machine-fits (length c) r a.fits);
        }

-- what is handed back
module _ (s : List ℕ) (w : NumbersWide s) where
  channels-fit : channels_fit (channels_of s) ≡ true
  unfolding channels_fit
  channels-fit =
      all_of (channel_fits_at (channels_of s)) 12
      (λ i h. subst (λ (c : Channel). ltb c.word (2 ^ 12) ≡ true) (sym (get_d_tabulate (channel_of s) disconnected 12 i h))
      (lt-ltb (channel_of s i).word (2 ^ 12) (channel-fits s w i h)))

  processors-fit : processors_fit (processors_of s) ≡ true
  unfolding processors_fit
  processors-fit =
      all_of (processor_fits_at (processors_of s)) 10
      (λ i h. let p = processor-short s w i h in
      subst (λ (q : Processor). processor_fits q ≡ true) (sym (get_d_tabulate (processor_of s) idle 10 i h))
      (of-processor-fits (processor_of s i)
      (record {
        p-width = lt-ltb (processor_of s i).p (2 ^ 12) p.0;
        a-width = lt-ltb (processor_of s i).a (2 ^ 18) p.1;
        stop-listed = stop-listed s w i h;
      })))

module _ (n : ℕ) (h : Machine) (k : MachineKept n h) where
  pub kept-fits : machine_fits (length h.central) (record_of h.registers h.numbers) ≡ true
  unfolding machine_fits
  kept-fits =
      let s = h.numbers in
      rw (
        k.host.fits,
        lt-ltb (clock_of s) (2 ^ 12) (clock-short s k.wide),
        channels-fit s k.wide,
        processors-fit s k.wide,
      )

-- the machine of k processors after a call, lent again
pub machine-lent-again : (k : ℕ) (h : Machine) → 1 ≤ k → k ≤ 10 → MachineKept (k * 4096) h
    → machine_verdict true h.central h.peripheral (record_of h.registers h.numbers) ≡ Ok tt
unfolding machine_verdict
machine-lent-again k h l m kept =
    rw (
      le-leb 1 (length h.central) kept.host.nonempty,
      le-leb (length h.central) 131072 kept.host.at_most,
      kept.size,
      of-length-fits k l m,
      kept.host.words,
      of-short-words h.peripheral kept.short,
      kept-fits (k * 4096) h kept,
    )
