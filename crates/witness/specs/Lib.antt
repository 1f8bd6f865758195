pub mod Cycles
pub mod Judges
pub mod Labels
pub mod Reasons
pub mod Witnesses
