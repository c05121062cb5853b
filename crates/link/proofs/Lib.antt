-- The laws of frames: the reader's answers, round trips, and condition 3.
pub mod Laws
