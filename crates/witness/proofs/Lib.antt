pub mod Shortest
pub mod Searched
pub mod Explained
pub mod Related
pub mod Labelled
