pub mod LineLaws
pub mod MakingLaws
pub mod StageLaws
pub mod OutputLaws
pub mod WriteLaws
pub mod RunLaws
