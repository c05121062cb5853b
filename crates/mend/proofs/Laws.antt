-- The laws, a file for each subject.
pub mod Answer
pub mod Text
