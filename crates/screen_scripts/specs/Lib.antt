pub mod Lines
pub mod Commands
pub mod Stories
pub mod Printing
pub mod Showing
pub mod Running
