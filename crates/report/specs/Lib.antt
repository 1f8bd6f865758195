pub mod Chains
pub mod Labels
pub mod Listings
pub mod Pages
pub mod Refusals
pub mod Replies
pub mod Texts
pub mod Writing
