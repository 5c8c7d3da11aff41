pub mod FolderLaws
pub mod SearchLaws
