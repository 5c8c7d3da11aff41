-- The source text of an entry.
pub mod Print
pub mod ReadBack
