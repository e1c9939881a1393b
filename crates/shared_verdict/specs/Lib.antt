-- What the contracts of `shared_verdict` ask for; what they promise is in `shared_schedule`. `Laws` is proved from them.
-- packages and fields that may be read
pub mod Owners
pub mod Laws
