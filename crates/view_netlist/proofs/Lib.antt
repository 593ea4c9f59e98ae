mod Numbered
mod Shapes
pub mod Drawings
mod Orders
mod ClassNames
