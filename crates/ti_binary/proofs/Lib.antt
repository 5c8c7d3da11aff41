pub mod KeptLaws
pub mod NulLaws
pub mod OffsetLaws
pub mod CanonicalLaws
pub mod WordLaws
pub mod FilledLaws
pub mod FileLaws
pub mod CanonicalFileLaws
