pub mod Links
pub mod Lists
pub mod Steps
pub mod Spelled
