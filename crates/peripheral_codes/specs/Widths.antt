-- The widths that the functions ask for. That turns keep them is proved in `peripheral_machine`'s `Laws.Keeps` and `peripheral_turn`'s `Laws.Turn`.
use Rattle.std.specs.Prelude.{List, ◌≡◌, ℕ, ◌^◌, ◌<◌, length}
use Rattle.peripheral_machine.specs.Widths.{ShortWords}
use Rattle.peripheral_machine.specs.declared.numbers.Processor.{Processor}

-- the memory of one processor: 4,096 words of 12 bits
pub record Memory (m : List ℕ) : Type 0 where
  pub size : length m ≡ 4096
  pub short : ShortWords m

-- P has 12 bits, A 18
pub record Held (q : Processor) : Type 0 where
  pub p : q.p < 2 ^ 12
  pub a : q.a < 2 ^ 18

-- v is w, a value of 12 bits
pub record Twelve (v w : ℕ) : Type 0 where
  pub is : v ≡ w
  pub short : v < 2 ^ 12
