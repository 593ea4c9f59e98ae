pub mod Mixed
pub mod Depth
