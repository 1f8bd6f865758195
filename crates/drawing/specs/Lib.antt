pub mod Arrows
pub mod Dots
pub mod Examples
pub mod Naming
pub mod Telling
pub mod Texts
