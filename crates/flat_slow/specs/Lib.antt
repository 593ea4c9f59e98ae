pub mod Slow
pub mod Paths
