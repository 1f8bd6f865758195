pub mod Counts
pub mod Forms
pub mod Reading
pub mod Reasons
pub mod Refusals
pub mod Rows
