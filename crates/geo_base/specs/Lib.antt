pub mod Motions
pub mod Near
pub mod Rects
pub mod Laws
pub mod Layers
pub mod Outlines
