pub mod Touching
pub mod Pairs
pub mod Crowds
