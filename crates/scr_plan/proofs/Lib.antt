pub mod BoundLaws
pub mod BriefLaws
pub mod ChangedRowLaws
pub mod JoinLaws
pub mod JoinedLaws
pub mod JoinedPriceLaws
pub mod JoinedRowLaws
pub mod JoiningLaws
pub mod LengthLaws
pub mod LookingLaws
pub mod RememberedPlanLaws
pub mod PartLaws
pub mod PlaceLaws
pub mod PlainLaws
pub mod PlanMadeLaws
pub mod PlanningLaws
pub mod ScratchLaws
pub mod PlanLaws
pub mod SkipLaws
mod CheckingLaws
mod SureLaws
