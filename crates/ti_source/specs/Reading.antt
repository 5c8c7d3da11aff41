-- What a source is.
pub mod Cutting
pub mod Escape
pub mod Field
pub mod SourceLine
pub mod Number
pub mod Sources
pub mod Spelling
