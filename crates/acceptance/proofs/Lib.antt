-- Proofs of what is claimed of all crates together.
pub mod Examples
pub mod Conditions
