pub mod Loaded
pub mod Paths
pub mod Telling
