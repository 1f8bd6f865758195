pub mod Chains
pub mod Codes
pub mod Conditions
pub mod Equality
pub mod Exact
pub mod Spellings
pub mod StateExamples
pub mod States
