pub mod Added
pub mod Explained
pub mod ReadBack
pub mod Stored
pub mod Zipped
