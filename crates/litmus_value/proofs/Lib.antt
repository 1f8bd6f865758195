pub mod Among
pub mod Bounds
pub mod Branches
pub mod Distinct
pub mod Noted
pub mod Sums
pub mod Terms
pub mod Keys
