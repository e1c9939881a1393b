-- The 84 numbers written out, with the 36 flags of the channels as they were worked out.
use Rattle.std.specs.Prelude.{List, ◌∷◌, ◌++◌, ◌≡◌, refl, ℕ}
use Rattle.std.proofs.Common.{ap, ap₂, ◌∙◌}
use Rattle.peripheral_channel.specs.declared.record.Channel.{Channel}
use Rattle.base_lists.specs.Indexed.{tabulate}
use Rattle.peripheral_machine.specs.Numbers.{flag}
use Rattle.peripheral_machine.specs.declared.numbers.Processor.{Processor}
use Rattle.whole_record.specs.declared.record.MachineRecord.{MachineRecord}
use Rattle.whole_record.specs.Record.{processor_at, channel_at}
use Rattle.whole_record.specs.Numbers.{processor_number, channel_number, control_numbers, number_of, numbers_of}

abbrev of-processors : MachineRecord → (Processor → ℕ) → List ℕ
of-processors r field = tabulate 10 (λ i. field (processor_at r.processors i))

abbrev of-channels : MachineRecord → (Channel → ℕ) → List ℕ
of-channels r field = tabulate 12 (λ i. field (channel_at r.channels i))

abbrev pub flags : MachineRecord → List ℕ
flags r = of-channels r (λ c. flag c.active) ++ (of-channels r (λ c. flag c.full) ++ of-channels r (λ c. flag c.mark))

abbrev around : MachineRecord → List ℕ → List ℕ
around r l =
    of-processors r (λ q. q.p) ++ (of-processors r (λ q. q.a) ++ (of-processors r (λ q. q.stop)
    ++ (l ++ (of-channels r (λ c. c.word) ++ control_numbers r))))

written_out : (r : MachineRecord) → around r (flags r) ≡ numbers_of r
unfolding numbers_of tabulate number_of processor_number channel_number
written_out r = refl

pub numbers-are : (r : MachineRecord) (l : List ℕ) → l ≡ flags r → around r l ≡ numbers_of r
numbers-are r l e = ap (around r) e ∙ written_out r

-- one entry, and the rest
pub entry-then : {a b : ℕ} {l k : List ℕ} → a ≡ b → l ≡ k → a ∷ l ≡ b ∷ k
entry-then e f = ap₂ (λ (x : ℕ) (t : List ℕ). x ∷ t) e f
