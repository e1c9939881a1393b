-- The definitions that the contracts of `host_calls` cite: each is the answer of an entry point of SINGLE, SHARED or WHOLE, with records as flat
-- numbers. A reader has to believe these; `Laws` is proved from them.
-- turn, exchange jump, run of one program
pub mod Central
pub mod Schedule
-- turn of a peripheral processor, run of rounds
pub mod Machine
-- put, take, drop
pub mod Device
pub mod Laws
