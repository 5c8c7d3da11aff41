pub mod AlikeLaws
pub mod CompiledEntryLaws
pub mod CompilingLaws
pub mod OnceLaws
pub mod WrittenLaws
