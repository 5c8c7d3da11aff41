-- Words of private functions.
pub mod Progress
