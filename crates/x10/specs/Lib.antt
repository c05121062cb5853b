-- Document 01, "X-10 patterns", in the paper's order: the places on the line, the codes, and what is read and written.
pub mod Places
pub mod Codes
pub mod Pattern
pub mod Answers
pub mod Parts
