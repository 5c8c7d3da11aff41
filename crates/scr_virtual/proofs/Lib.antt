pub mod CopyLaws
pub mod LawLaws
pub mod RangeLaws
pub mod RowLaws
pub mod ScreenLaws
pub mod TakingLaws
pub mod UnlikeLaws
