pub mod Gathering
pub mod Limits
pub mod Tests
pub mod ValueExamples
pub mod Values
