-- Entries by name, with their uses taken in.
pub mod Named
pub mod Passing
pub mod Uses
