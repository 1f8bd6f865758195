pub mod Labels
pub mod Reads
pub mod Rules
