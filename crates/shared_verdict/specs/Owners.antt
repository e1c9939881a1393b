-- What is known of the jobs before they are compared with one another.
use Rattle.std.specs.Prelude.{true, List, ◌≡◌, ℕ, ◌≤◌, length}
use Rattle.exchange_jump.specs.Jump.{package_inside, field_inside}
use Rattle.shared_schedule.specs.Refusals.{every_job}

-- numbers 9 and 11 refuse no job of a memory that is not too long for number 1
pub record Inside (m jobs : List ℕ) : Type 0 where
  pub packages : every_job jobs (package_inside m) ≡ true
  pub fields : every_job jobs (field_inside m) ≡ true
  pub at_most : length m ≤ 131072
