-- The laws, a file for each subject.
pub mod Bytes
pub mod Copying
pub mod Distance
pub mod First
pub mod Ladder
pub mod Remainder
pub mod RoundTrip
pub mod Whole
pub mod Written
