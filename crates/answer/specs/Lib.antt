-- What every specification answers in, and how an answer is packed for C.
pub mod Answer
pub mod Bit
pub mod Packed
