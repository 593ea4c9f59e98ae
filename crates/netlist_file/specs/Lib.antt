pub mod File
pub mod Flat
pub mod One
pub mod Extracted
pub mod Once
pub mod Spelled
