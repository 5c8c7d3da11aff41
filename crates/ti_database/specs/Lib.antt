pub use Rattle.ti_caps.specs.Description
pub mod Environment
pub use Rattle.ti_binary.specs.Files
pub mod Places
pub mod Search
