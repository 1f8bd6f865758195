pub mod Bindings
pub mod Examples
pub mod Pages
pub mod Printing
pub mod Written
