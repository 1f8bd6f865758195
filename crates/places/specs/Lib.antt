pub mod Fronts
pub mod Lines
pub mod Messages
pub mod Spellings
