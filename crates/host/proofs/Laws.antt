-- The laws, a file for each subject.
pub mod Written
