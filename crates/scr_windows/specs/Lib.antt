pub mod Calls
pub mod Changes
pub mod Code
pub mod DeskViews
pub mod Laws
pub mod Lending
pub mod Surfaces
