pub mod Called
pub mod Together
mod Kept
mod Judged
