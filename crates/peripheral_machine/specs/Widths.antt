-- The widths that the functions ask for. That effects keep them is proved in `Laws.Keeps`.
use Rattle.std.specs.Prelude.{Bool, true, cond, List, ◌≡◌, ℕ, ◌^◌, ◌<◌, ltb, get_or, length}
use Rattle.base_outcome.specs.Numbers.{peripheral_stop_listed}
use Rattle.peripheral_channel.specs.Laws.Width.{ChannelFits}
use Rattle.exchange_jump.specs.Accepted.{HostAccepted, PackageAccepted}
use Rattle.peripheral_machine.specs.declared.effect.PeripheralEffect.{PeripheralEffect}
use Rattle.peripheral_machine.specs.declared.effect.PeripheralEffect.TheVariants.{Advance, Store, ReadCentral, WriteCentral, SetChannel, Exchange, Wait, Stop}
use Rattle.peripheral_machine.specs.Numbers.{central_of}
use Rattle.peripheral_machine.specs.Machine.{Machine}

-- what the record may hold at place i, but for the flags, which are 0 or 1, and the central processor's numbers
unfoldable pub number_fits : ℕ → ℕ → Bool
number_fits i v =
    cond (ltb i 10) (ltb v (2 ^ 12))
    (cond (ltb i 20) (ltb v (2 ^ 18))
    (cond (ltb i 30) (peripheral_stop_listed v)
    (cond (ltb i 66) true
    (cond (ltb i 78) (ltb v (2 ^ 12))
    (cond (ltb i 83) true (ltb v (2 ^ 12)))))))

pub record NumbersWide (s : List ℕ) : Type 0 where
  pub at : (i : ℕ) → number_fits i (get_or s i 0) ≡ true

-- words of 12 bits
pub record ShortWords (m : List ℕ) : Type 0 where
  pub word : (i : ℕ) → get_or m i 0 < 2 ^ 12

-- a machine with n words of peripheral memory, as the host may lend it
pub record MachineKept (n : ℕ) (h : Machine) : Type 0 where
  pub size : length h.peripheral ≡ n
  pub short : ShortWords h.peripheral
  pub host : HostAccepted h.central (central_of h.registers h.numbers)
  pub count : length h.registers ≡ 24
  pub places : length h.numbers ≡ 84
  pub wide : NumbersWide h.numbers

-- an effect on a central memory c: its places are there, and its values have their widths
abbrev pub PeripheralSound : List ℕ → PeripheralEffect → Type 0
PeripheralSound c (Advance p a) = (p < 2 ^ 12) × (a < 2 ^ 18)
PeripheralSound c (Store p a i v) = ((p < 2 ^ 12) × (a < 2 ^ 18)) × ((i < 4096) × (v < 2 ^ 12))
PeripheralSound c (ReadCentral p a i w) = ((p < 2 ^ 12) × (a < 2 ^ 18)) × (i < 64)
PeripheralSound c (WriteCentral p a i w) = ((p < 2 ^ 12) × (a < 2 ^ 18)) × ((i < length c) × (w < 2 ^ 60))
PeripheralSound c (SetChannel p a i d) = ((p < 2 ^ 12) × (a < 2 ^ 18)) × ((i < 12) × ChannelFits d)
PeripheralSound c (Exchange p a at) = ((p < 2 ^ 12) × (a < 2 ^ 18)) × PackageAccepted c at
PeripheralSound c Wait = Unit {0}
PeripheralSound c (Stop why) = Unit {0}
