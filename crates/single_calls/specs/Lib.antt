-- The definitions that the contracts of `single_calls` cite. A reader has to believe these; `Laws` is proved from them.
-- central_turn and exchange
pub mod RecordCalls
-- central_turns
pub mod Turns
-- run_program
pub mod Program
pub mod Laws
