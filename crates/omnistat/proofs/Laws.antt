-- The laws, a file for each subject.
pub mod Check
pub mod Data
pub mod Frame
pub mod Group
pub mod Habit
pub mod Heard
pub mod Message
pub mod Omnistat
pub mod Output
pub mod Part
pub mod Refusals
pub mod Run
pub mod Sum
pub mod Text
pub mod Typed
