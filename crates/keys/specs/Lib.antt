pub mod Spelling
pub mod SpellingExamples
