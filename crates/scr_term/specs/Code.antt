-- The words of private functions: nothing that has to be read to know what the library does.
pub mod Kept
pub mod SentPieces
pub mod Admission
