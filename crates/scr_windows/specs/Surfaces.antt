-- Surfaces of cells, and what is drawn on them.
pub mod Drawings
pub mod Formulas
pub mod SurfaceLaws
pub mod SurfaceViews
