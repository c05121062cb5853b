-- What is claimed of all crates together: the marked examples of document 01, and condition 2.
pub mod Examples
pub mod Conditions
