pub mod Names
pub mod Kinds
pub mod Params
pub mod Sizes
pub mod Rows
pub mod Kept
pub mod Seen
