pub mod Faults
pub mod Inputs
pub mod Refusals
pub mod Tasks
pub mod Words
