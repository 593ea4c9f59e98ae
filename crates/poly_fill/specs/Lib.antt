pub mod Fills
pub mod Edges
pub mod Outlines
