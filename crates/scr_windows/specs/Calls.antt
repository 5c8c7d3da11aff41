-- The definitions of the calls, by kind.
pub mod Adding
pub mod Borders
pub mod Copying
pub mod Erasing
pub mod Making
pub mod Moving
pub mod Reading
pub mod Removing
pub mod Resizing
pub mod Scrolling
pub mod Settings
pub mod Subwindows
pub mod Syncing
pub mod Touching
