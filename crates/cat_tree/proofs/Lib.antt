pub mod Copies
pub mod Equal
pub mod Nodes
pub mod Spelled
