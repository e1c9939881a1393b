-- The first number of which a test does not hold.
use Rattle.std.specs.Prelude.{Bool, cond, ℕ, zero, suc}
use Rattle.base_lists.specs.Indexed.{all_below}

-- how many numbers from 0 up the test holds of without a break: the first below n of which it does not hold, or n where there is none
unfoldable pub first_failing : ℕ → (ℕ → Bool) → ℕ
first_failing zero test = zero
first_failing (suc n) test = cond (all_below (suc n) test) (suc n) (first_failing n test)
