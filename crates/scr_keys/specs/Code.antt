-- Definitions that only private functions use.
pub mod Maps
pub mod Rooms
pub mod Sequences
