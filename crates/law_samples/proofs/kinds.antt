pub mod Answering
pub mod Shrinking
