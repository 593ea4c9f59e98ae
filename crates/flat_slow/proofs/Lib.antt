mod Calm
pub mod Turns
pub mod Ways
