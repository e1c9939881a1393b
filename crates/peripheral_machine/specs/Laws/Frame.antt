-- What an effect leaves as it was: the records of the other processors, and the five parts of a word.
use Rattle.std.specs.Prelude.{List, ◌≡◌, refl, ℕ, ◌+◌, ◌^◌, ◌≤◌, ◌<◌, get_or, set, length}
use Rattle.std.proofs.Common.{◌∙◌, arith, get_or-set_other}
use Rattle.word_fields.specs.Fields.{word_part, from_parts}
use Rattle.word_fields.specs.Laws.Fields.{parts-of, from_parts_lem}
use Rattle.peripheral_channel.specs.declared.record.Channel.{Channel}
use Rattle.base_outcome.specs.Numbers.{peripheral_stop_number}
use Rattle.exchange_jump.specs.Jump.{exchanged}
use Rattle.central_record.specs.declared.record.Central.{Central}
use Rattle.peripheral_machine.specs.declared.effect.PeripheralEffect.{PeripheralEffect}
use Rattle.peripheral_machine.specs.declared.effect.PeripheralEffect.TheVariants.{Advance, Store, ReadCentral, WriteCentral, SetChannel, Exchange, Wait, Stop}
use Rattle.peripheral_machine.specs.Numbers.{processor_of, advanced, flag, with_channel, central_of, with_controls}
use Rattle.peripheral_machine.specs.Machine.{Machine}
use Rattle.peripheral_machine.specs.Apply.{with_parts, exchanged_at, peripheral_applied}
use Rattle.peripheral_machine.specs.Widths.{ShortWords}
use Rattle.peripheral_machine.specs.Laws.Widths.{set_own, five-read}

-- a number stored at none of the three places of processor j
processor-kept : (s : List ℕ) (i v j : ℕ) → (j ≡ i → ⊥) → (10 + j ≡ i → ⊥) → (20 + j ≡ i → ⊥) → processor_of (set s i v) j ≡ processor_of s j
processor-kept s i v j p a stop =
    rw (get_or-set_other s i j v 0 p, get_or-set_other s i (10 + j) v 0 a, get_or-set_other s i (20 + j) v 0 stop)

-- numbers of the channels, of the central processor and of the clock are no processor's
pub processor-kept-above : (s : List ℕ) (i v j : ℕ) → 30 ≤ i → j < 10 → processor_of (set s i v) j ≡ processor_of s j
processor-kept-above s i v j l h = processor-kept s i v j (λ e. omega arith) (λ e. omega arith) (λ e. omega arith)

channel-other : (s : List ℕ) (i : ℕ) (c : Channel) (j : ℕ) → j < 10 → processor_of (with_channel s i c) j ≡ processor_of s j
channel-other s i c j h =
    let s₁ : List ℕ = set s (30 + i) (flag c.active) in
    let s₂ : List ℕ = set s₁ (42 + i) (flag c.full) in
    let s₃ : List ℕ = set s₂ (54 + i) (flag c.mark) in
    processor-kept-above s₃ (66 + i) c.word j (omega arith) h
    ∙ processor-kept-above s₂ (54 + i) (flag c.mark) j (omega arith) h
    ∙ processor-kept-above s₁ (42 + i) (flag c.full) j (omega arith) h
    ∙ processor-kept-above s (30 + i) (flag c.active) j (omega arith) h

pub controls-other : (s : List ℕ) (p ra fl em stop j : ℕ) → j < 10 → processor_of (with_controls s p ra fl em stop) j ≡ processor_of s j
controls-other s p ra fl em stop j h =
    let s₁ : List ℕ = set s 78 p in
    let s₂ : List ℕ = set s₁ 79 ra in
    let s₃ : List ℕ = set s₂ 80 fl in
    let s₄ : List ℕ = set s₃ 81 em in
    processor-kept-above s₄ 82 stop j (omega arith) h
    ∙ processor-kept-above s₃ 81 em j (omega arith) h
    ∙ processor-kept-above s₂ 80 fl j (omega arith) h
    ∙ processor-kept-above s₁ 79 ra j (omega arith) h
    ∙ processor-kept-above s 78 p j (omega arith) h

jump-other : (c x s : List ℕ) (at j : ℕ) → j < 10 → processor_of (exchanged_at c x s at).numbers j ≡ processor_of s j
unfolding exchanged_at
jump-other c x s at j h =
    let d : Central = (exchanged c (central_of x s) at).central in
    controls-other s d.p d.ra d.fl d.em d.stop j h

module _ (n j : ℕ) (l : n < 10) (h : j < 10) (other : j ≡ n → ⊥) where
  advance-other : (s : List ℕ) (p a : ℕ) → processor_of (advanced s n p a) j ≡ processor_of s j
  advance-other s p a =
      processor-kept (set s n p) (10 + n) a j (λ e. omega arith) (λ e. other (omega arith)) (λ e. omega arith)
      ∙ processor-kept s n p j other (λ e. omega arith) (λ e. omega arith)

-- the turn of a processor changes no other processor's record
pub other-processor : (h : Machine) (n j : ℕ) (e : PeripheralEffect) → n < 10 → j < 10 → (j ≡ n → ⊥)
    → processor_of (peripheral_applied h n e).numbers j ≡ processor_of h.numbers j
unfolding peripheral_applied
other-processor h n j (Advance p a) l b o = advance-other n j l b o h.numbers p a
other-processor h n j (Store p a i v) l b o = advance-other n j l b o h.numbers p a
other-processor h n j (ReadCentral p a i w) l b o = advance-other n j l b o h.numbers p a
other-processor h n j (WriteCentral p a i w) l b o = advance-other n j l b o h.numbers p a
other-processor h n j (SetChannel p a i c) l b o =
    advance-other n j l b o (with_channel h.numbers i c) p a ∙ channel-other h.numbers i c j b
other-processor h n j (Exchange p a at) l b o =
    advance-other n j l b o (exchanged_at h.central h.registers h.numbers at).numbers p a
    ∙ jump-other h.central h.registers h.numbers at j b
other-processor h n j Wait l b o = refl
other-processor h n j (Stop why) l b o =
    processor-kept h.numbers (20 + n) (peripheral_stop_number why) j (λ e. omega arith) (λ e. omega arith) (λ e. o (omega arith))

-- "60, 62 move one word in five parts": the word that 62 makes of five parts, read by 60, gives the same five parts
pub parts_again : (m : List ℕ) (i : ℕ) → ShortWords m
    → with_parts m i (from_parts (get_or m i 0) (get_or m (i + 1) 0) (get_or m (i + 2) 0) (get_or m (i + 3) 0) (get_or m (i + 4) 0)) ≡ m
unfolding with_parts
parts_again m i w =
    let a : ℕ = get_or m i 0 in
    let b : ℕ = get_or m (i + 1) 0 in
    let c : ℕ = get_or m (i + 2) 0 in
    let d : ℕ = get_or m (i + 3) 0 in
    let e : ℕ = get_or m (i + 4) 0 in
    let q = parts-of a b c d e (w.word i) (w.word (i + 1)) (w.word (i + 2)) (w.word (i + 3)) (w.word (i + 4)) in
    rw (q.first, q.second, q.third, q.fourth, q.fifth)
    (rw (set_own m i, set_own m (i + 1), set_own m (i + 2), set_own m (i + 3), set_own m (i + 4)))

-- and the five parts that 60 makes of a word, read by 62, give the word
pub parts-read : (m : List ℕ) (i w : ℕ) → i + 4 < length m → w < 2 ^ 60
    → from_parts
    (get_or (with_parts m i w) i 0)
    (get_or (with_parts m i w) (i + 1) 0)
    (get_or (with_parts m i w) (i + 2) 0)
    (get_or (with_parts m i w) (i + 3) 0)
    (get_or (with_parts m i w) (i + 4) 0)
    ≡ w
unfolding with_parts
parts-read m i w room h =
    let f = five-read m i (word_part w 0) (word_part w 1) (word_part w 2) (word_part w 3) (word_part w 4) room in
    rw (f.first, f.second, f.third, f.fourth, f.fifth) (from_parts_lem w h)
