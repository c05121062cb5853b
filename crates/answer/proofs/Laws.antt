-- The laws, a file for each subject.
pub mod AtMost
pub mod Decided
pub mod Exit
pub mod Fields
pub mod Output
pub mod Packed
pub mod Retired
pub mod Table
pub mod Test
