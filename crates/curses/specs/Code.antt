-- Words of private functions.
pub mod Openings
pub mod Texts
