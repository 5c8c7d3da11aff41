-- Definitions that only private functions use. Nobody has to read them to know what the library does.
pub mod Lanes
pub mod Numbers
pub mod PackedPens
