-- Laws on the definitions of Omnistat2 messages, for the functions here and for the crates above.
pub mod Laws
