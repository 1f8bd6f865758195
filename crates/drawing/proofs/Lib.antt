pub mod Adding
pub mod Zipped
