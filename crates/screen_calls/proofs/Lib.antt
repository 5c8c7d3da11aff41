pub mod CutLaws
pub mod FieldLaws
pub mod NumberLaws
