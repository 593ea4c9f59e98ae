pub mod Layers
pub mod Regions
pub mod Cross
pub mod Shown
pub mod Layout
pub mod File
