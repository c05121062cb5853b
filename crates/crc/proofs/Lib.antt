-- The laws behind the CRC's code and behind condition 3.
pub mod Laws
