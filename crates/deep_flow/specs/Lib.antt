pub mod Bad
pub mod Extracted
