-- The laws of mending.
pub mod Laws
