-- Definitions that only private functions use.
pub mod Families
pub mod NewFrames
pub mod Canvases
pub mod Steps
pub mod Stretches
