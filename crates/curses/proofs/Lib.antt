pub mod CutLaws
pub mod RememberedLaws
pub mod StartingLaws
pub mod TextLaws
pub mod UpdateLaws
pub mod OpeningLaws
