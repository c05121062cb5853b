-- Document 02, K8: mending a capture; what is claimed of it; and what the code's parts promise one another.
pub mod Mending
pub mod Claim
pub mod Parts
