pub mod EntryCodes
pub mod Equality
pub mod LineCodes
pub mod Lines
pub mod ListCodes
pub mod Listed
