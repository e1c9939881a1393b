-- The definitions that the contracts of `host_answer` cite: the number of a call, what it hands back, and its results. A reader has to
-- believe these; `Laws` is proved from them.
pub mod Back
pub mod Results
pub mod Laws
