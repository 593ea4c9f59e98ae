pub mod Folds
pub mod Knowing
pub mod Turns
pub mod Marking
pub mod Staged
pub mod Bare
