-- How the functions of src/ do their work. Their results are proved to be what the other files define; nobody has to
-- read this.
pub mod Kept
pub mod Keyed
pub mod Laid
pub mod Marked
pub mod Notes
pub mod PackedLists
pub mod Plain
pub mod Seen
pub mod Blocks
pub mod Lines
pub mod OpenEntry
pub mod FirstFields
pub mod Leading
pub mod EntryWalk
