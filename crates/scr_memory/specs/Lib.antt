pub mod Code
pub mod Memories
pub mod MemoryRuns
pub mod Spares
