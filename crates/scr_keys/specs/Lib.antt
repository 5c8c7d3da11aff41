pub mod Code
pub mod Keys
pub mod Laws
pub mod Names
pub mod Readers
pub mod Tables
pub mod Typing
pub mod TypingLaws
