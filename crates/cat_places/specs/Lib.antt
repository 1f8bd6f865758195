pub mod Blame
pub mod Denied
pub mod Fronts
pub mod Own
pub mod Places
pub mod Walks
