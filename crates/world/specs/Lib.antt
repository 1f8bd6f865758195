pub mod Examples
pub mod Histories
pub mod Merging
pub mod World
