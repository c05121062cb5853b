-- The laws, a file for each subject.
pub mod Bits
pub mod Codes
pub mod Pairs
pub mod Pattern
pub mod Put
pub mod Read
pub mod ReadAfterWrite
pub mod Write
pub mod WriteAfterRead
