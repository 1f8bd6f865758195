pub mod Answers
pub mod Lines
pub mod Passes
pub mod Scripts
pub mod Serving
pub mod Spelled
