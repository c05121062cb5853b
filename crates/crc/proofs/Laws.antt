-- The laws, a file for each subject.
pub mod Bits
pub mod Distance
pub mod Feed
pub mod Flip
pub mod Fold
pub mod Linear
pub mod Parity
pub mod Parts
pub mod Wide
pub mod Word
pub mod Xor
