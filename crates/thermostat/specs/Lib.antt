-- Document 01, "Registers and the model thermostat", in the paper's order, and document 02, K1.
pub mod Map
pub mod Texts
pub mod Registers
pub mod Step
pub mod Temperature
pub mod Parts
