pub mod Paired
pub mod Composed
pub mod Answered
pub mod Matched
