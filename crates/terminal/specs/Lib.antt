pub mod Cursors
pub mod Events
pub mod Inputs
pub mod Lines
pub mod Sizes
pub mod Locales
pub mod Openings
