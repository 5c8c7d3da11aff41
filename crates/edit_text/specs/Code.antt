pub mod Edits
pub mod Searches
