pub mod Chains
pub mod Codes
pub mod Equality
pub mod Exact
pub mod Names
pub mod Spellings
pub mod Tree
