pub use Rattle.scr_term.specs.Operations
pub mod Terminals
pub mod Characters
pub mod Leading
pub mod Marks
pub mod Ecma
pub mod Code
