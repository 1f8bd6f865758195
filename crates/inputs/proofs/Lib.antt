pub mod Cases
pub mod Fronts
pub mod Kept
pub mod Settled
