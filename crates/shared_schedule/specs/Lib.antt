-- Schedules: what the contract of the entry point cites, and demand 3. A reader has to believe these, but for `Job`, which laws speak of, and
-- `Ready`, which only says what stints ask for; `Laws` and the theorems of proofs/ are proved from them.
pub mod Schedule
-- which schedules are refused
pub mod Refusals
-- demand 3
pub mod Isolation
-- a job by itself
pub mod Job
-- what may run
pub mod Ready
pub mod Laws
