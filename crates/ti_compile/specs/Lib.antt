pub mod Alike
pub mod Compiling
pub mod EntryCompiling
pub mod Faults
pub mod FileNames
pub mod Once
pub mod Progress
