-- The laws, a file for each subject.
pub mod Accepts
pub mod Carried
pub mod Checked
pub mod Counts
pub mod Decode
pub mod Duration
pub mod Encode
pub mod Fault
pub mod Framed
pub mod Item
pub mod Kinds
pub mod Lists
pub mod Packed
pub mod RoundTrip
pub mod Sized
pub mod Written
