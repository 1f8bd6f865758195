pub mod Codes
pub mod Equality
pub mod Exact
pub mod Postorder
pub mod Spellings
pub mod Terms
pub mod Tree
