pub mod Counting
pub mod Firsts
pub mod Greatest
pub mod Noting
pub mod Stops
pub mod Told
pub mod Whole
