pub mod Code
pub mod Laws
pub mod Pairs
pub mod Ranges
pub mod Taking
pub mod VirtualViews
