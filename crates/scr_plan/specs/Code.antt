-- Definitions that only private functions use. Nobody has to read them to know what the library does.
pub mod Joinings
pub mod Looking
pub mod Painters
pub mod Planning
pub mod Scenes
