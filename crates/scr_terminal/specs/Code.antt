-- The words of private functions: nothing that has to be read to know what the library does.
pub mod Readings
pub mod Changes
pub mod Writing
pub mod Marking
