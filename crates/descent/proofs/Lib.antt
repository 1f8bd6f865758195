pub mod Turns
pub mod Tools
pub mod Causes
