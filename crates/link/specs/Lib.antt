-- Document 01, "Omni-Link frames", and condition 3.
pub mod Frame
pub mod Distance
