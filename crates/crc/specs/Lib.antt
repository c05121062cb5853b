-- Document 01, "Omni-Link frames": the CRC on bits; the places at which bit strings differ, and a flipped bit; what the code's parts promise one another.
pub mod Bits
pub mod Crc
pub mod Places
pub mod Parts
