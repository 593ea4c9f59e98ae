pub mod Tokens
pub mod Cards
pub mod Parts
pub mod Seen
