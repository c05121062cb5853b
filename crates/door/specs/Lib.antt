-- The login door of document 02, K6: its secret and its state, one message, and what is claimed of runs of messages.
pub mod State
pub mod Door
pub mod Runs
