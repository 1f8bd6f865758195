pub mod EachSlice
pub mod Firsts
pub mod Loaded
pub mod Objects
pub mod Told
pub mod Verdicts
pub mod Pushed
