pub mod Code
pub mod Described
pub mod Printing
pub mod Reading
pub mod Resolving
pub mod Result
