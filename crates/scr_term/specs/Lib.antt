pub use Rattle.scr_cells.specs.Attributes
pub use Rattle.scr_cells.specs.CellViews
pub use Rattle.scr_cells.specs.Grids
pub use Rattle.scr_cells.specs.LookViews
pub use Rattle.scr_cells.specs.PictureViews
pub mod Operations
pub mod Ecma
pub mod Code
