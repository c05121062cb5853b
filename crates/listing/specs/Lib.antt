-- The capture listing: its lines and their text; a capture in pieces; what the functions behind both hand to one another.
pub mod Lines
pub mod Text
pub mod Faithful
pub mod State
pub mod Pieces
pub mod Parts
