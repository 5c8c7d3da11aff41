-- The definitions that the contracts of this crate cite.
pub mod Adapted
pub mod Code
pub mod Cuts
pub mod Forwarding
pub mod Keyboard
pub mod Opening
pub mod Refreshing
pub mod ScreenStates
pub mod Starting
pub mod Texts
pub mod Updates
pub mod Writers
