pub mod Jobs
pub mod Answers
pub mod Children
pub mod Verdict
