-- Omni-Link messages, in the paper's order; then writing typed messages, the item calls, and what is packed for C.
pub mod Lists
pub mod Log
pub mod Command
pub mod Message
pub mod Typed
pub mod Item
pub mod Fields
pub mod Parts
