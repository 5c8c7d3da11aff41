pub mod Checks
pub mod Code
pub mod Plans
pub mod Repaints
pub mod Scratch
