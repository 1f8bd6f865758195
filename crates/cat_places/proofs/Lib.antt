pub mod Blaming
pub mod Denying
pub mod OneRefusal
pub mod Owning
pub mod Placing
pub mod Texts
pub mod Walking
