pub mod Parts
pub mod Quarters
pub mod Tallied
