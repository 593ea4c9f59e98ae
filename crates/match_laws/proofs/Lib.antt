pub mod Sums
pub mod Images
pub mod Read
pub mod Verdict
pub mod Answer
pub mod OneAnswer
