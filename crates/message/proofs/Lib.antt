-- The laws of messages.
pub mod Laws
