pub mod Accesses
pub mod Fronts
pub mod Limits
pub mod Marks
pub mod Numbers
pub mod Places
pub mod Rules
