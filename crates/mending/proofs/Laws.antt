-- The laws, a file for each subject.
pub mod Flips
pub mod Long
pub mod Mending
pub mod Search
pub mod Sizes
pub mod Written
