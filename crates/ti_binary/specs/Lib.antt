pub use Rattle.ti_caps.specs.Description
pub mod Canonical
pub mod Files
pub mod FileLaws
pub mod Shapes
