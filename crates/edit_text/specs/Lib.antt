pub mod Code
pub mod Finds
pub mod Lines
pub mod Parts
pub mod Places
pub mod Refusals
pub mod Texts
pub mod Laws
