pub mod MakingLaws
pub mod MarkLaws
pub mod SessionLaws
pub mod TakenLaws
