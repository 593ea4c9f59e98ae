pub mod Chosen
pub mod Flattened
pub mod Whole
pub mod Merged
pub mod Again
