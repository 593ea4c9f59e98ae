pub mod Children
pub mod Plain
pub mod Answered
