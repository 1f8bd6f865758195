pub mod Bindings
pub mod InOrder
pub mod Links
pub mod ObservedPlaces
pub mod Places
pub mod StateValues
pub mod Left
pub mod Spelled
