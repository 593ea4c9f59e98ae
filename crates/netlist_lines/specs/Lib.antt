pub mod Cleaning
pub mod Names
