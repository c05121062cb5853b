-- Document 01, "Omnistat2 messages", in the paper's order, document 02, K1 and K9, and what the code's answers stand for.
pub mod Frame
pub mod Message
pub mod Group
pub mod Register
pub mod Text
pub mod Omnistat
pub mod Answer
pub mod Host
pub mod Claim
pub mod Parts
