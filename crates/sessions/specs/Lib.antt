pub mod Calls
pub mod Finish
pub mod Labels
pub mod PassCodes
pub mod Views
