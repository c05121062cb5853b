-- The laws of the login door.
pub mod Laws
