pub mod ActLaws
pub mod FollowLaws
pub mod FollowingLaws
pub mod MemoryRunLaws
pub mod MemoryViewLaws
pub mod RememberedRowLaws
pub mod TryingLaws
pub mod SureLaws
