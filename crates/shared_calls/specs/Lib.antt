-- What the contracts of `shared_calls` cite beside the definitions of `shared_schedule`. A reader has to believe these; `Laws` is proved from them.
-- stints, and the call that runs a schedule
pub mod Answer
pub mod Laws
