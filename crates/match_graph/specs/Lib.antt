pub mod Numbering
pub mod Graph
pub mod Edges
pub mod Filling
pub mod Kinds
