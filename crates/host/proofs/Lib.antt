-- Laws of what the calls for C answer and leave.
pub mod Laws
