pub mod HistoryLaws
pub mod InverseLaws
pub mod KeptLaws
pub mod PartLaws
pub mod ReadingLaws
pub mod ByteLaws
pub mod SearchLaws
