-- Definitions that only private functions use.
pub mod Lines
pub mod Rows
