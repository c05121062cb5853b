-- The laws, a file for each subject.
pub mod Fahrenheit
pub mod Float
pub mod Map
pub mod Rules
pub mod Set
pub mod Step
pub mod Temperature
pub mod TextSet
pub mod Texts
