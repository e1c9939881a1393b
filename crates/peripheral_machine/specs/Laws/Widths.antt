-- The widths of the 84 numbers: what they say of each number, and that every change keeps them. Which changes leave the central
-- processor's record as it is, and that a stored record is read back.
use Rattle.std.specs.Prelude.{true, List, [], ◌∷◌, ◌≡◌, ℕ, zero, suc, ◌+◌, ◌%◌, ◌^◌, ◌≤◌, ◌<◌, ltb, get_or, set, length}
use Rattle.std.proofs.Common.{sym, ◌∙◌, arith, length-set, get_or-set_same, get_or-set_other}
use borrow.Author.Tests.{ltb-true, lt-ltb, le-ltb}
use Rattle.std.proofs.lemmas.List.{set-get_or}
use Rattle.base_outcome.specs.Numbers.{peripheral_stop_number, peripheral_stop_listed}
use Rattle.base_outcome.proofs.Numbers.{peripheral-stop-listed}
use Rattle.base_outcome.specs.declared.stop.PeripheralStop.{PeripheralStop}
use Rattle.peripheral_channel.specs.Laws.Width.{ChannelFits}
use Rattle.peripheral_channel.specs.declared.record.Channel.{Channel}
use Rattle.central_record.specs.declared.record.Central.{Central}
use Rattle.peripheral_machine.specs.Numbers.{processor_of, advanced, stopped, flag, channel_of, with_channel, central_of, with_controls, with_central, clock_of}
use Rattle.peripheral_machine.specs.Widths.{number_fits, NumbersWide}

-- what holds of the new value at its place, and of the value at place j before, holds of the value at j after
pub set-in : (P : ℕ → ℕ → Type 0) (l : List ℕ) (i j v : ℕ) → P i v → P j (get_or l j 0) → P j (get_or (set l i v) j 0)
set-in P [] i j v p q = q
set-in P (x ∷ l) zero zero v p q = p
set-in P (x ∷ l) zero (suc j) v p q = q
set-in P (x ∷ l) (suc i) zero v p q = q
set-in P (x ∷ l) (suc i) (suc j) v p q = set-in (λ (k : ℕ). P (suc k)) l i j v p q

-- a number stored where it stands already
pub set_own : (l : List ℕ) (i : ℕ) → set l i (get_or l i 0) ≡ l
set_own l i = set-get_or l i 0

-- what is asked at each place
module _ (i v : ℕ) where
  pub at_p : i < 10 → number_fits i v ≡ ltb v (2 ^ 12)
  unfolding number_fits
  at_p h = rw (lt-ltb i 10 h)

  pub at_a : 10 ≤ i → i < 20 → number_fits i v ≡ ltb v (2 ^ 18)
  unfolding number_fits
  at_a g h = rw (le-ltb i 10 g, lt-ltb i 20 h)

  pub at-stop : 20 ≤ i → i < 30 → number_fits i v ≡ peripheral_stop_listed v
  unfolding number_fits
  at-stop g h = rw (le-ltb i 10 (omega arith), le-ltb i 20 g, lt-ltb i 30 h)

  pub at_flag : 30 ≤ i → i < 66 → number_fits i v ≡ true
  unfolding number_fits
  at_flag g h = rw (le-ltb i 10 (omega arith), le-ltb i 20 (omega arith), le-ltb i 30 g, lt-ltb i 66 h)

  pub at-word : 66 ≤ i → i < 78 → number_fits i v ≡ ltb v (2 ^ 12)
  unfolding number_fits
  at-word g h =
      rw (le-ltb i 10 (omega arith), le-ltb i 20 (omega arith), le-ltb i 30 (omega arith), le-ltb i 66 g, lt-ltb i 78 h)

  pub at-central : 78 ≤ i → i < 83 → number_fits i v ≡ true
  unfolding number_fits
  at-central g h =
      rw (
        le-ltb i 10 (omega arith),
        le-ltb i 20 (omega arith),
        le-ltb i 30 (omega arith),
        le-ltb i 66 (omega arith),
        le-ltb i 78 g,
        lt-ltb i 83 h,
      )

  -- and past the last place
  pub at-clock : 83 ≤ i → number_fits i v ≡ ltb v (2 ^ 12)
  unfolding number_fits
  at-clock g =
      rw (
        le-ltb i 10 (omega arith),
        le-ltb i 20 (omega arith),
        le-ltb i 30 (omega arith),
        le-ltb i 66 (omega arith),
        le-ltb i 78 (omega arith),
        le-ltb i 83 g,
      )

-- the widths, place by place
module _ (s : List ℕ) (w : NumbersWide s) where
  pub processor-short : (n : ℕ) → n < 10 → ((processor_of s n).p < 2 ^ 12) × ((processor_of s n).a < 2 ^ 18)
  processor-short n h = (
    ltb-true (get_or s n 0) (2 ^ 12) (sym (at_p n (get_or s n 0) h) ∙ w.at n),
    ltb-true (get_or s (10 + n) 0) (2 ^ 18) (sym (at_a (10 + n) (get_or s (10 + n) 0) (omega arith) (omega arith)) ∙ w.at (10 + n)),
  )

  pub stop-listed : (n : ℕ) → n < 10 → peripheral_stop_listed (processor_of s n).stop ≡ true
  stop-listed n h = sym (at-stop (20 + n) (get_or s (20 + n) 0) (omega arith) (omega arith)) ∙ w.at (20 + n)

  pub channel-fits : (i : ℕ) → i < 12 → ChannelFits (channel_of s i)
  channel-fits i h =
      ltb-true (get_or s (66 + i) 0) (2 ^ 12) (sym (at-word (66 + i) (get_or s (66 + i) 0) (omega arith) (omega arith)) ∙ w.at (66 + i))

  pub clock-short : clock_of s < 2 ^ 12
  clock-short = ltb-true (clock_of s) (2 ^ 12) (sym (at-clock 83 (clock_of s) (omega arith)) ∙ w.at 83)

pub wide-set : (s : List ℕ) (i v : ℕ) → number_fits i v ≡ true → NumbersWide s → NumbersWide (set s i v)
wide-set s i v h w = record { at = λ j. set-in (λ (k y : ℕ). number_fits k y ≡ true) s i j v h (w.at j) }

-- each change of the numbers keeps their widths
pub wide-advanced : (s : List ℕ) (n p a : ℕ) → n < 10 → p < 2 ^ 12 → a < 2 ^ 18 → NumbersWide s → NumbersWide (advanced s n p a)
wide-advanced s n p a h hp ha w =
    wide-set (set s n p) (10 + n) a (at_a (10 + n) a (omega arith) (omega arith) ∙ lt-ltb a (2 ^ 18) ha)
    (wide-set s n p (at_p n p h ∙ lt-ltb p (2 ^ 12) hp) w)

pub wide-stopped : (s : List ℕ) (n : ℕ) (why : PeripheralStop) → n < 10 → NumbersWide s → NumbersWide (stopped s n why)
wide-stopped s n why h w =
    wide-set s (20 + n) (peripheral_stop_number why)
    (at-stop (20 + n) (peripheral_stop_number why) (omega arith) (omega arith) ∙ peripheral-stop-listed why)
    w

pub wide-channel : (s : List ℕ) (i : ℕ) (c : Channel) → i < 12 → ChannelFits c → NumbersWide s → NumbersWide (with_channel s i c)
wide-channel s i c h f w =
    wide-set _ (66 + i) c.word (at-word (66 + i) c.word (omega arith) (omega arith) ∙ lt-ltb c.word (2 ^ 12) f)
    (wide-set _ (54 + i) (flag c.mark) (at_flag (54 + i) (flag c.mark) (omega arith) (omega arith))
    (wide-set _ (42 + i) (flag c.full) (at_flag (42 + i) (flag c.full) (omega arith) (omega arith))
    (wide-set s (30 + i) (flag c.active) (at_flag (30 + i) (flag c.active) (omega arith) (omega arith)) w)))

pub wide-controls : (s : List ℕ) (p ra fl em stop : ℕ) → NumbersWide s → NumbersWide (with_controls s p ra fl em stop)
wide-controls s p ra fl em stop w =
    wide-set _ 82 stop (at-central 82 stop (omega arith) (omega arith))
    (wide-set _ 81 em (at-central 81 em (omega arith) (omega arith))
    (wide-set _ 80 fl (at-central 80 fl (omega arith) (omega arith))
    (wide-set _ 79 ra (at-central 79 ra (omega arith) (omega arith))
    (wide-set s 78 p (at-central 78 p (omega arith) (omega arith)) w))))

pub clock-ticks : (s : List ℕ) → NumbersWide s → NumbersWide (set s 83 ((clock_of s + 1) % 4096))
clock-ticks s w =
    wide-set s 83 ((clock_of s + 1) % 4096)
    (at-clock 83 ((clock_of s + 1) % 4096) (omega arith) ∙ lt-ltb ((clock_of s + 1) % 4096) (2 ^ 12) (omega arith))
    w

-- numbers of the peripheral processors, of the channels and of the clock are none of the central processor's
module _ (x s : List ℕ) where
  central-kept : (i v : ℕ) → ((j : ℕ) → 78 ≤ j → j < 83 → j ≡ i → ⊥) → central_of x (set s i v) ≡ central_of x s
  central-kept i v apart =
      rw (
        get_or-set_other s i 78 v 0 (apart 78 (omega arith) (omega arith)),
        get_or-set_other s i 79 v 0 (apart 79 (omega arith) (omega arith)),
        get_or-set_other s i 80 v 0 (apart 80 (omega arith) (omega arith)),
        get_or-set_other s i 81 v 0 (apart 81 (omega arith) (omega arith)),
        get_or-set_other s i 82 v 0 (apart 82 (omega arith) (omega arith)),
      )

  pub central-kept-below : (i v : ℕ) → i < 78 → central_of x (set s i v) ≡ central_of x s
  central-kept-below i v h = central-kept i v (λ j l u e. omega arith)

  pub central-kept-clock : (v : ℕ) → central_of x (set s 83 v) ≡ central_of x s
  central-kept-clock v = central-kept 83 v (λ j l u e. omega arith)

pub central-kept-advanced : (x s : List ℕ) (n p a : ℕ) → n < 10 → central_of x (advanced s n p a) ≡ central_of x s
central-kept-advanced x s n p a h =
    central-kept-below x (set s n p) (10 + n) a (omega arith) ∙ central-kept-below x s n p (omega arith)

pub central-kept-stopped : (x s : List ℕ) (n : ℕ) (why : PeripheralStop) → n < 10 → central_of x (stopped s n why) ≡ central_of x s
central-kept-stopped x s n why h = central-kept-below x s (20 + n) (peripheral_stop_number why) (omega arith)

pub central-kept-channel : (x s : List ℕ) (i : ℕ) (c : Channel) → i < 12 → central_of x (with_channel s i c) ≡ central_of x s
central-kept-channel x s i c h =
    let s₁ : List ℕ = set s (30 + i) (flag c.active) in
    let s₂ : List ℕ = set s₁ (42 + i) (flag c.full) in
    let s₃ : List ℕ = set s₂ (54 + i) (flag c.mark) in
    central-kept-below x s₃ (66 + i) c.word (omega arith)
    ∙ central-kept-below x s₂ (54 + i) (flag c.mark) (omega arith)
    ∙ central-kept-below x s₁ (42 + i) (flag c.full) (omega arith)
    ∙ central-kept-below x s (30 + i) (flag c.active) (omega arith)

-- no number is added and none is lost
pub length-advanced : (s : List ℕ) (n p a : ℕ) → length (advanced s n p a) ≡ length s
length-advanced s n p a = length-set (set s n p) (10 + n) a ∙ length-set s n p

pub length-channel : (s : List ℕ) (i : ℕ) (c : Channel) → length (with_channel s i c) ≡ length s
length-channel s i c = simp length-set

pub length-controls : (s : List ℕ) (p ra fl em stop : ℕ) → length (with_controls s p ra fl em stop) ≡ length s
length-controls s p ra fl em stop = simp length-set

-- the central processor's own record, stored where it stands already
pub controls-own : (x s : List ℕ) → with_central s (central_of x s) ≡ s
controls-own x s = rw (set_own s 78, set_own s 79, set_own s 80, set_own s 81, set_own s 82)

-- a number is read back after another is stored at a later place
still : (l : List ℕ) (i j v w : ℕ) → i < j → get_or l i 0 ≡ w → get_or (set l j v) i 0 ≡ w
still l i j v w h e = get_or-set_other l j i v 0 (λ z. omega arith) ∙ e

-- five numbers stored one after the other, from place i on, are read back
pub record Five (l : List ℕ) (i a b c d e : ℕ) : Type 0 where
  pub first : get_or l i 0 ≡ a
  pub second : get_or l (i + 1) 0 ≡ b
  pub third : get_or l (i + 2) 0 ≡ c
  pub fourth : get_or l (i + 3) 0 ≡ d
  pub fifth : get_or l (i + 4) 0 ≡ e

module _ (l : List ℕ) (i a b c d e : ℕ) (room : i + 4 < length l) where
  abbrev l₁ : List ℕ
  l₁ = set l i a

  abbrev l₂ : List ℕ
  l₂ = set l₁ (i + 1) b

  abbrev l₃ : List ℕ
  l₃ = set l₂ (i + 2) c

  abbrev l₄ : List ℕ
  l₄ = set l₃ (i + 3) d

  pub five-read : Five (set l₄ (i + 4) e) i a b c d e
  five-read =
      record {
        first =
            still l₄ i (i + 4) e a (omega arith)
            (still l₃ i (i + 3) d a (omega arith)
            (still l₂ i (i + 2) c a (omega arith) (still l₁ i (i + 1) b a (omega arith) (get_or-set_same l i a 0 (omega arith)))));
        second =
            still l₄ (i + 1) (i + 4) e b (omega arith)
            (still l₃ (i + 1) (i + 3) d b (omega arith)
            (still l₂ (i + 1) (i + 2) c b (omega arith) (get_or-set_same l₁ (i + 1) b 0 (simp length-set (omega arith)))));
        third =
            still l₄ (i + 2) (i + 4) e c (omega arith)
            (still l₃ (i + 2) (i + 3) d c (omega arith) (get_or-set_same l₂ (i + 2) c 0 (simp length-set (omega arith))));
        fourth = still l₄ (i + 3) (i + 4) e d (omega arith) (get_or-set_same l₃ (i + 3) d 0 (simp length-set (omega arith)));
        fifth = get_or-set_same l₄ (i + 4) e 0 (simp length-set room);
      }

-- what is stored of a record is read back
controls-read : (s : List ℕ) (p ra fl em stop : ℕ) → 82 < length s → (x : List ℕ)
    → central_of x (with_controls s p ra fl em stop) ≡ record { p = p; ra = ra; fl = fl; em = em; registers = x; stop = stop }
controls-read s p ra fl em stop room x =
    let f = five-read s 78 p ra fl em stop room in rw (f.first, f.second, f.third, f.fourth, f.fifth)

pub central-read : (s : List ℕ) (d : Central) → 82 < length s → central_of d.registers (with_central s d) ≡ d
central-read s d room = controls-read s d.p d.ra d.fl d.em d.stop room d.registers
