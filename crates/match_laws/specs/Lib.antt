pub mod Circuits
pub mod Verdict
pub mod Answer
