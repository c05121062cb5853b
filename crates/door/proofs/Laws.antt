-- The laws, a file for each subject.
pub mod State
pub mod Door
pub mod Runs
