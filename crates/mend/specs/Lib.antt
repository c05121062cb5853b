-- What the program prints, and what its parts promise one another.
pub mod Printed
pub mod Parts
