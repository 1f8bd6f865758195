pub mod Answered
pub mod Arguments
mod FlagReads
pub mod Inputs
mod Names
mod OptionReads
