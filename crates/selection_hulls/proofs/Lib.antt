pub mod Corners
pub mod Near
pub mod Points
pub mod Counting
pub mod Room
