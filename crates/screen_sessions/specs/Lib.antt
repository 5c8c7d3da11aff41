-- The definitions that the contracts of this crate cite.
pub mod Calls
pub mod Code
pub mod Faulty
pub mod Making
pub mod Sessions
