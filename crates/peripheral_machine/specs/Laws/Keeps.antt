-- Effects leave a machine as the host may lend it.
use mathlib.Core.List.{List}
use Rattle.std.specs.Prelude.{◌≡◌, refl, set, length}
use Rattle.std.proofs.Common.{sym, ◌∙◌, arith, length-set}
use Rattle.std.proofs.Math.Path.{subst}
use Prim.Native.Nat.{ℕ, ◌+◌, ◌^◌, ◌<◌}
use Rattle.word_fields.specs.Fields.{word_part}
use Rattle.word_arithmetic.specs.Laws.Bits.{bits-lt}
use Rattle.base_outcome.specs.declared.stop.PeripheralStop.{PeripheralStop}
use Rattle.peripheral_channel.specs.Laws.Width.{ChannelFits}
use Rattle.peripheral_channel.specs.declared.record.Channel.{Channel}
use Rattle.base_lists.specs.Parts as Memory
use Rattle.exchange_jump.specs.Jump.{exchanged}
use Rattle.central_record.specs.Laws.Record.{word_width, of-word-width}
use Rattle.exchange_package.specs.Laws.Package.{count-of-package}
use Rattle.exchange_jump.specs.Accepted.{HostAccepted, PackageAccepted}
use Rattle.exchange_jump.specs.Laws.Verdicts.{host-accepted, of-host-accepted, of-package-accepted}
use Rattle.exchange_jump.specs.Laws.Jump.{exchange-length, exchange-host-accepted}
use Rattle.central_record.specs.declared.record.Central.{Central}
use Rattle.peripheral_machine.specs.declared.effect.PeripheralEffect.{PeripheralEffect}
use Rattle.peripheral_machine.specs.declared.effect.PeripheralEffect.TheVariants.{Advance, Store, ReadCentral, WriteCentral, SetChannel, Exchange, Wait, Stop}
use Rattle.peripheral_machine.specs.Numbers.{advanced, stopped, with_channel, central_of}
use Rattle.peripheral_machine.specs.Machine.{Machine, machine}
use Rattle.peripheral_machine.specs.Apply.{with_parts, exchanged_at, peripheral_applied}
use Rattle.peripheral_machine.specs.Widths.{NumbersWide, ShortWords, MachineKept, PeripheralSound}
use Rattle.peripheral_machine.specs.Laws.Widths.{set-in, wide-advanced, wide-stopped, wide-channel, wide-controls, central-kept-advanced, central-kept-stopped, central-kept-channel, length-advanced, length-channel, length-controls, central-read}

-- words of a peripheral memory
pub short-word-set : (m : List ℕ) (i v : ℕ) → v < 2 ^ 12 → ShortWords m → ShortWords (set m i v)
short-word-set m i v h w = record { word = λ j. set-in (λ (k y : ℕ). y < 2 ^ 12) m i j v h (w.word j) }

pub short-parts : (m : List ℕ) (i w : ℕ) → ShortWords m → ShortWords (with_parts m i w)
unfolding with_parts
short-parts m i w h =
    short-word-set _ (i + 4) (word_part w 4) (bits-lt w 0 12)
    (short-word-set _ (i + 3) (word_part w 3) (bits-lt w 12 12)
    (short-word-set _ (i + 2) (word_part w 2) (bits-lt w 24 12)
    (short-word-set _ (i + 1) (word_part w 1) (bits-lt w 36 12) (short-word-set m i (word_part w 0) (bits-lt w 48 12) h))))

pub length-parts : (m : List ℕ) (i w : ℕ) → length (with_parts m i w) ≡ length m
unfolding with_parts
length-parts m i w = simp length-set

-- a word of central memory
pub host-set : (m : List ℕ) (c : Central) (i w : ℕ) → w < 2 ^ 60 → HostAccepted m c → HostAccepted (set m i w) c
host-set m c i w h l =
    record {
      nonempty = rw (length-set m i w) l.nonempty;
      at_most = rw (length-set m i w) l.at_most;
      words = of-word-width (set m i w) (λ j. set-in (λ (k y : ℕ). y < 2 ^ 60) m i j w h (word_width m l.words j));
      fits = rw (length-set m i w) l.fits;
    }

-- the exchange jump of 26 at an accepted package
module _ (c x s : List ℕ) (at : ℕ) where
  pub jump-host : 82 < length s → HostAccepted c (central_of x s) → PackageAccepted c at
      → HostAccepted (exchanged_at c x s at).central (central_of (exchanged_at c x s at).registers (exchanged_at c x s at).numbers)
  unfolding exchanged_at
  jump-host room l r =
      let m' : List ℕ = (exchanged c (central_of x s) at).memory in
      let d : Central = (exchanged c (central_of x s) at).central in
      subst (HostAccepted m') (sym (central-read s d room))
      (host-accepted m' d
      (exchange-host-accepted c (central_of x s) at (of-host-accepted c (central_of x s) l) (of-package-accepted c at r)))

  pub jump-length : PackageAccepted c at → length (exchanged_at c x s at).central ≡ length c
  unfolding exchanged_at
  jump-length r = exchange-length c (central_of x s) at r.inside

  pub jump-count : length (exchanged_at c x s at).registers ≡ 24
  unfolding exchanged_at exchanged
  jump-count = count-of-package (Memory.part c at 16)

  pub jump-places : length (exchanged_at c x s at).numbers ≡ length s
  unfolding exchanged_at
  jump-places = length-controls s _ _ _ _ _

  pub jump-wide : NumbersWide s → NumbersWide (exchanged_at c x s at).numbers
  unfolding exchanged_at
  jump-wide w = wide-controls s _ _ _ _ _ w

-- each part of an effect
module _ (m c x s : List ℕ) (k : MachineKept 4096 (machine m c x s)) where
  -- of the numbers none of the central processor's changes
  numbers_keep : (t : List ℕ) → central_of x t ≡ central_of x s → length t ≡ length s → NumbersWide t → MachineKept 4096 (machine m c x t)
  numbers_keep t e l w =
      record {
        size = k.size;
        short = k.short;
        host = subst (HostAccepted c) (sym e) k.host;
        count = k.count;
        places = l ∙ k.places;
        wide = w;
      }

  memory-keep : (t : List ℕ) → length t ≡ length m → ShortWords t → MachineKept 4096 (machine t c x s)
  memory-keep t l w =
      record { size = l ∙ k.size; short = w; host = k.host; count = k.count; places = k.places; wide = k.wide }

  advance-keeps : (n p a : ℕ) → n < 10 → p < 2 ^ 12 → a < 2 ^ 18 → MachineKept 4096 (machine m c x (advanced s n p a))
  advance-keeps n p a h hp ha =
      numbers_keep (advanced s n p a) (central-kept-advanced x s n p a h) (length-advanced s n p a) (wide-advanced s n p a h hp ha k.wide)

  stop-keeps : (n : ℕ) (why : PeripheralStop) → n < 10 → MachineKept 4096 (machine m c x (stopped s n why))
  stop-keeps n why h =
      numbers_keep (stopped s n why) (central-kept-stopped x s n why h) (length-set s (20 + n) _) (wide-stopped s n why h k.wide)

  channel-keeps : (i : ℕ) (d : Channel) → i < 12 → ChannelFits d → MachineKept 4096 (machine m c x (with_channel s i d))
  channel-keeps i d h f =
      numbers_keep (with_channel s i d) (central-kept-channel x s i d h) (length-channel s i d) (wide-channel s i d h f k.wide)

  store_keeps : (i v : ℕ) → v < 2 ^ 12 → MachineKept 4096 (machine (set m i v) c x s)
  store_keeps i v h = memory-keep (set m i v) (length-set m i v) (short-word-set m i v h k.short)

  parts-keep : (i w : ℕ) → MachineKept 4096 (machine (with_parts m i w) c x s)
  parts-keep i w = memory-keep (with_parts m i w) (length-parts m i w) (short-parts m i w k.short)

  word_keeps : (i w : ℕ) → w < 2 ^ 60 → MachineKept 4096 (machine m (set c i w) x s)
  word_keeps i w h =
      record {
        size = k.size;
        short = k.short;
        host = host-set c (central_of x s) i w h k.host;
        count = k.count;
        places = k.places;
        wide = k.wide;
      }

  jump-keeps : (at : ℕ) → PackageAccepted c at
      → MachineKept 4096 (machine m (exchanged_at c x s at).central (exchanged_at c x s at).registers (exchanged_at c x s at).numbers)
  jump-keeps at r =
      record {
        size = k.size;
        short = k.short;
        host = jump-host c x s at (omega (arith, k.places)) k.host r;
        count = jump-count c x s at;
        places = jump-places c x s at ∙ k.places;
        wide = jump-wide c x s at k.wide;
      }

-- an effect keeps the widths and lengths of everything that the host lends
pub peripheral-apply-keeps : (h : Machine) (n : ℕ) (e : PeripheralEffect) → n < 10 → PeripheralSound h.central e → MachineKept 4096 h → MachineKept 4096 (peripheral_applied h n e)
unfolding peripheral_applied
peripheral-apply-keeps h n (Advance p a) l f k = advance-keeps _ _ _ _ k n p a l f.0 f.1
peripheral-apply-keeps h n (Store p a i v) l f k =
    advance-keeps _ _ _ _ (store_keeps _ _ _ _ k i v f.1.1) n p a l f.0.0 f.0.1
peripheral-apply-keeps h n (ReadCentral p a i w) l f k = advance-keeps _ _ _ _ (parts-keep _ _ _ _ k i w) n p a l f.0.0 f.0.1
peripheral-apply-keeps h n (WriteCentral p a i w) l f k =
    advance-keeps _ _ _ _ (word_keeps _ _ _ _ k i w f.1.1) n p a l f.0.0 f.0.1
peripheral-apply-keeps h n (SetChannel p a i d) l f k =
    advance-keeps _ _ _ _ (channel-keeps _ _ _ _ k i d f.1.0 f.1.1) n p a l f.0.0 f.0.1
peripheral-apply-keeps h n (Exchange p a at) l f k = advance-keeps _ _ _ _ (jump-keeps _ _ _ _ k at f.1) n p a l f.0.0 f.0.1
peripheral-apply-keeps h n Wait l f k = k
peripheral-apply-keeps h n (Stop why) l f k = stop-keeps _ _ _ _ k n why l

-- and the length of central memory
pub apply-length : (h : Machine) (n : ℕ) (e : PeripheralEffect) → PeripheralSound h.central e → length (peripheral_applied h n e).central ≡ length h.central
unfolding peripheral_applied
apply-length h n (Advance p a) f = refl
apply-length h n (Store p a i v) f = refl
apply-length h n (ReadCentral p a i w) f = refl
apply-length h n (WriteCentral p a i w) f = length-set h.central i w
apply-length h n (SetChannel p a i d) f = refl
apply-length h n (Exchange p a at) f = jump-length h.central h.registers h.numbers at f.1
apply-length h n Wait f = refl
apply-length h n (Stop why) f = refl
