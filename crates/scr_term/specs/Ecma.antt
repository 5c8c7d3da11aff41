-- The text sent to a terminal: its units, and what each unit means.
pub mod Units
pub mod Meanings
