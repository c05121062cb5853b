-- The laws, a file for each subject.
pub mod Cost
pub mod Reading
pub mod Total
pub mod Run
