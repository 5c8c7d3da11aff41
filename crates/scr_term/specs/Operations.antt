-- The operations of a terminal: what is known of the terminal, its states, what an operation does and which bytes it
-- sends.
pub mod Abilities
pub mod Capabilities
pub mod Profiles
pub mod Admission
pub mod Ecma48
pub mod States
pub mod Steps
pub mod Pieces
pub mod Texts
pub mod Painted
pub mod Laws
pub mod Defined
pub mod Larger
pub mod Bundled
